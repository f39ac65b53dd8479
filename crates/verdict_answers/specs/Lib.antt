-- The answer to a still that was filtered elsewhere, definitions only: what is tested, in which order, and the verdict. Read the files in this order.
pub mod Plan
pub mod VerdictAnswer
pub mod Examples
