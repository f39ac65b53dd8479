pub mod OffsetLaws
pub mod RealLaws
pub mod SizeLaws
pub mod AxisPassed
