-- Exact sums of windows, definitions only.
pub mod BoxSums
