pub mod NeedLaws
pub mod Rest
pub mod Suffices
