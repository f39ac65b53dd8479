pub mod OneStage
pub mod Plans
pub mod Accepted
