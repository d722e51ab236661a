-- Frames put in front of what stands in a room, and a value under a column.
pub mod FrameLaws
pub mod ColumnLaws
