-- The call that judges a still that was filtered elsewhere, definitions only: what it answers and leaves in the lent buffer. Read the files in this order.
pub mod Compares
pub mod GivesVerdict
