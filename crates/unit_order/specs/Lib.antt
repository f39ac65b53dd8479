-- The order of service as the code tests it, definitions only.
pub mod Order
