-- Summed-area tables, definitions only. Read the files in this order.
pub mod Table
pub mod HeldTable
