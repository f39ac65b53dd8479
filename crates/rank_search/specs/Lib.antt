-- Windows in rows that are held, and the search of a rank by halving, definitions only. Read the files in this order.
pub mod WindowAt
pub mod Halving
