-- The kinds of stages, and the fields that stages share, definitions only.
pub mod Kind
pub mod StageFields
