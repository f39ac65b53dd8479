-- The text of a header, definitions only.
pub mod Text
pub mod Step
