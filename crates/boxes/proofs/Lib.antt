pub mod FullTable
pub mod Windows
pub mod Radii
