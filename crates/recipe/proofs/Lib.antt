-- What every recipe that is read keeps to.
pub mod Accepted
pub mod Chain
pub mod Works
pub mod Walk
