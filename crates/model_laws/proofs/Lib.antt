-- What is proved of the definitions.
pub mod Border
pub mod Mirror
pub mod Apportion
pub mod Symmetry
pub mod Binomial
pub mod Flat
pub mod Weighted
pub mod Window
pub mod Box
pub mod Rank
pub mod Outline
pub mod Sides
pub mod Flip
pub mod Chain
pub mod Bounds
pub mod Rounded
