pub mod AxisLaws
pub mod GainLaws
