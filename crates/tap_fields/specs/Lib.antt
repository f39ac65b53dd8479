-- The fields of all taps of a stage of weights, definitions only.
pub mod TapFields
