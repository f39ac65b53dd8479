pub mod Divide
pub mod Sum
