pub mod Counts
pub mod Search
