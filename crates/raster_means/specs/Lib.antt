-- Sums over rasters that lie one behind the other, definitions only.
pub mod Sums
