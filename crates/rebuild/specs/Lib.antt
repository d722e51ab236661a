-- A lawful row to be rebuilt, its names numbered, and what came of a room for its document.
pub mod Rebuilding
pub mod Numbering
