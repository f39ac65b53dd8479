pub mod Sums
pub mod Entries
pub mod Held
