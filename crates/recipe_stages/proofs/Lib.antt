pub mod ByKind
pub mod StageLaws
