-- Rows of a kept plane, definitions only.
pub mod HeldRow
