pub mod Counts
pub mod Below
