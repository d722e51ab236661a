-- The sizes that cells of numbers have.
pub mod Sized
