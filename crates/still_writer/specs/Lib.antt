-- What a still is written as, definitions only.
pub mod Write
