pub mod SumLaws
pub mod ColumnLaws
pub mod RunLaws
pub mod RowLaws
