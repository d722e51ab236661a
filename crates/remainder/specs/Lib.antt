-- The fields of an object that its node does not name, as a leftover.
pub mod Remainder
pub mod Passing
pub mod Left
