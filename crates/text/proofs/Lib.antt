pub mod TextLaws
pub mod Front
