-- Taps from a recipe's bytes, definitions only.
pub mod TapBytes
pub mod Held
pub mod RealExamples
