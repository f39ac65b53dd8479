-- What a caller in C or Rust is told, definitions only.
pub mod Numbers
