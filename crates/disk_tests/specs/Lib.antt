-- The program's two input files, definitions only: what is found of them, and the order of their refusals.
pub mod Disk
