pub mod Slide
pub mod Placed
