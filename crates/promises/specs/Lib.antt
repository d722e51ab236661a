-- The demands, a file to each, and before them the words that they share.
pub mod Tables
pub mod AnyBytes
pub mod Buffers
pub mod Done
pub mod Walking
pub mod Columns
pub mod OneRow
pub mod Screens
pub mod Finding
pub mod ShutOut
