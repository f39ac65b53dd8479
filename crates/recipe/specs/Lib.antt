-- Recipes as document 01 has them ('Recipe bytes'), definitions only.
pub mod Recipe
