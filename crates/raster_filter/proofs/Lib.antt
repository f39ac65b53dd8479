pub mod FilteredLaws
