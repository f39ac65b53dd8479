-- The call that filters a file, definitions only: what it answers and leaves in the lent buffers, and demand 3.
pub mod FiltersFile
