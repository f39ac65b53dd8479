pub mod SumLaws
pub mod PartialSums
pub mod TapLists
