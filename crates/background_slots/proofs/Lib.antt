pub mod Search
pub mod Members
pub mod HeldRoom
pub mod Holding
