-- Taps with whole numerators, definitions only.
pub mod Whole
