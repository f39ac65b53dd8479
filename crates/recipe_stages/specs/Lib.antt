-- The stages of a recipe's bytes, definitions only.
pub mod StageBytes
