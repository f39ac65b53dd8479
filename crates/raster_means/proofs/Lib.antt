pub mod PlaceSums
