-- What a still is read as, definitions only.
pub mod Head
pub mod Read
