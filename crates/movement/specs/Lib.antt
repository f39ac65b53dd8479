-- The movement between two stills, of document 02 ('2026-05'), definitions only: sample by sample, and the order of the tests. Read the files in this order; then
-- crates/movement_answers/specs, what the call answers, and crates/movement_filter/specs, what it ensures.
pub mod Motion
pub mod Motions
pub mod Truth
pub mod Order
pub mod Examples
