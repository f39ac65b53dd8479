pub mod ReadyLaws
pub mod FreeAxes
