-- When received samples are near exact fractions, definitions only. Read the files in this order.
pub mod Near
pub mod Everywhere
pub mod Places
