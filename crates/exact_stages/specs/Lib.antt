-- The exact results of one stage of a recipe, definitions only.
pub mod Numerators
pub mod Fits
