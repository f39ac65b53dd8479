-- The call that filters a plane, definitions only: what it answers and leaves in the lent buffers, and demand 3.
pub mod FiltersPlane
