-- What crosses the C boundary: the word of each answer, and what the functions that ask for a part of it give.
pub mod Boundary
pub mod CellParts
pub mod BoxParts
