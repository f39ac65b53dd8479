-- The header that is written, definitions only.
pub mod Heading
