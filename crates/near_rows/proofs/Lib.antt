pub mod EverywhereLaws
pub mod RowLaws
