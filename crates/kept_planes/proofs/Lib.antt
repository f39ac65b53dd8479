pub mod Planes
pub mod Held
