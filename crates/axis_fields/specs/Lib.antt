-- The fields of an axis of weights, definitions only.
pub mod AxisFields
