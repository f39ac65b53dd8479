-- A raster that is filtered, definitions only.
pub mod FilteredRaster
