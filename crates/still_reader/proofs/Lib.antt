pub mod ReadLaws
pub mod Headed
pub mod InOneStep
pub mod Front
