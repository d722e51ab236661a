-- Frames at a place of some bytes.
pub mod Frames
