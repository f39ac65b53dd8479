-- The answers of the two filtering calls, definitions only: what is tested, and in which order.
pub mod PlaneAnswer
pub mod Limits
pub mod FileAnswer
pub mod LimitExamples
