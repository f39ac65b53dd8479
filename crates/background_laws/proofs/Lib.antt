pub mod Order
pub mod Survivors
pub mod Runs
pub mod Limits
pub mod Honest
pub mod Determined
