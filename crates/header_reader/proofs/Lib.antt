pub mod HeaderLaws
pub mod Front
