pub mod Rows
pub mod Taps
