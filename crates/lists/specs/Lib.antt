pub mod Tabulate
pub mod Count
