pub mod Tests
pub mod Added
