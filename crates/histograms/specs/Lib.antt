-- Counts of grey levels, definitions only. Read the files in this order.
pub mod Histogram
pub mod Column
pub mod Position
