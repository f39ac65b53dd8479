pub mod Tests
pub mod Removed
