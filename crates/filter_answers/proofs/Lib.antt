pub mod PlaneAccepted
pub mod FileAccepted
pub mod InOneStep
pub mod Wider
pub mod NoLimit
