pub mod Plans
pub mod Shown
