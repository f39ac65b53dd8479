pub mod Exchange
pub mod Sums
