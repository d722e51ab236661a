-- The ids of the objects inside a value, a table that marks them, and what marking asks.
pub mod Ids
pub mod Marking
