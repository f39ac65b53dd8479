-- The kernels of a stage of weights, definitions only.
pub mod Kernels
