-- What a still and a recipe need, definitions only.
pub mod NeedsAnswer
pub mod Examples
