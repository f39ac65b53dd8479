-- The file call in the program, definitions only: what is lent to it, and what of it is saved.
pub mod Program
