-- The calls on a background with their answers told, definitions only.
pub mod Calls
