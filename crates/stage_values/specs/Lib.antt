-- Stages as the code holds them, and the model's stages that they stand for, definitions only. Read the files in this order.
pub mod Place
pub mod Size
pub mod Light
pub mod Ready
pub mod Stands
