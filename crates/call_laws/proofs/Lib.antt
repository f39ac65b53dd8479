-- Theorems about what the calls read, answer and write.
pub mod OneStage
pub mod Fits
pub mod Numbers
pub mod NoZero
pub mod Back
pub mod JustLent
pub mod AskFirst
pub mod OwnOutput
