-- Frames and the samples that the frame rule supplies, definitions only. Read the files in this order.
pub mod Framed
pub mod Padded
