-- A side of a box as it is read, and what its readers ask.
pub mod Sides
