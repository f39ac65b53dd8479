-- Sums of four samples, definitions only.
pub mod Fours
