-- What the laws of the calls speak of, definitions only.
pub mod FirstStage
pub mod Success
pub mod ReadsBack
