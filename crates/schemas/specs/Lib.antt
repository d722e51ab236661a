-- A schema as bytes: what stands in it, and where.
pub mod Frames
pub mod Positions
pub mod Kinds
pub mod Walk
pub mod Written
