-- Exact sums by taps, definitions only.
pub mod Sums
