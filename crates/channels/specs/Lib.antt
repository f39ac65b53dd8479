-- Channels of a raster, definitions only.
pub mod Channel
