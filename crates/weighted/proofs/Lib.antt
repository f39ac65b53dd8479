pub mod Reaching
pub mod Model
