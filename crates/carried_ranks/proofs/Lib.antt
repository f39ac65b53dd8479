pub mod Carried
pub mod RankWindow
