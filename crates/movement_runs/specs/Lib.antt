-- Two runs of the file call, one after the other, definitions only: what they leave, and what is counted of it.
pub mod RunsBoth
