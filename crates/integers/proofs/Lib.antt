pub mod Parts
pub mod Order
pub mod Divide
pub mod Near
pub mod Machine
pub mod Registers
pub mod MulAdd
pub mod Reciprocal
