pub mod Numerators
pub mod Holding
