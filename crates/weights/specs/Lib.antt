pub mod Bits
pub mod Weight
