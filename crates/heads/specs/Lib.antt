-- Readings as one number each.
pub mod Packing
