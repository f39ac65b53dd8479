-- What must be lent for running sums, and where their rows lie, definitions only.
pub mod Ring
pub mod Needs
