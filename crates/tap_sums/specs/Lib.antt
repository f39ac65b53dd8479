-- Sums by the taps that the code holds, definitions only.
pub mod HeldSums
