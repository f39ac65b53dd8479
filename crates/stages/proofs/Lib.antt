pub mod ChainLaws
pub mod Through
