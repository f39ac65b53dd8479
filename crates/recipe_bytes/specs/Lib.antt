-- Numbers in a recipe's bytes, definitions only.
pub mod Bytes
