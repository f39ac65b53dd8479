-- The call that counts the movement between two stills, definitions only: what it answers, leaves in the lent buffers, and promises of each sample.
pub mod CountsMovement
