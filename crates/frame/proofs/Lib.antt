pub mod Supplied
pub mod Rows
