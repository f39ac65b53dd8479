pub mod Named
pub mod HeaderAlone
pub mod JustEnough
