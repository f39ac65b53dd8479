-- Kernels as the code holds them, definitions only.
pub mod Kernel
