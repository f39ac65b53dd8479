-- Squares of samples in three rows, definitions only.
pub mod Square
