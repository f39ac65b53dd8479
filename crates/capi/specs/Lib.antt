-- The calls for C and Rust, definitions only.
pub mod Calls
