-- The verdict with its answer told, definitions only.
pub mod Call
