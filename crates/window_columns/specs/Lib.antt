-- A window by its rows and columns, definitions only. Read the files in this order.
pub mod Rows
pub mod Columns
pub mod Examples
