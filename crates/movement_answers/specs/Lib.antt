-- The answer to two stills, definitions only: what is tested, in which order, and what is counted. Read the files in this order.
pub mod Run
pub mod MovementAnswer
pub mod Plan
