-- The frame rule on one axis, definitions only.
pub mod Supplied
