-- Windows in the rows of sums that are held, definitions only.
pub mod WindowCorners
