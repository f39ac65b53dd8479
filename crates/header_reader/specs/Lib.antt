-- A header after the magic, definitions only.
pub mod Header
pub mod Answers
