-- What must be lent, definitions only.
pub mod Room
