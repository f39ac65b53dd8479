-- What is proved of the definitions.
pub mod Truth
pub mod Counting
