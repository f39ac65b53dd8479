-- The background still of document 02 ('2026-02'), definitions only. Read the files in this order.
pub mod Background
pub mod Room
pub mod Change
pub mod Mean
pub mod Memory
pub mod History
pub mod Calls
pub mod ExactMean
pub mod Examples
