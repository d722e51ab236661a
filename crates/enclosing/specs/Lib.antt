-- Frames put around what stands in a room.
pub mod Frames
