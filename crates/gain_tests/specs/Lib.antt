-- The test of a kernel's gain, definitions only.
pub mod Gain
pub mod Kept
