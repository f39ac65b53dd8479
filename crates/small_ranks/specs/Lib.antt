-- Rows that are held, definitions only.
pub mod HeldRows
