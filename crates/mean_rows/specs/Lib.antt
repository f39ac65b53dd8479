-- Windows in rows of a summed-area table, definitions only.
pub mod Corners
pub mod Reciprocal
