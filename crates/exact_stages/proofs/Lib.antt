pub mod Stages
pub mod ByKind
