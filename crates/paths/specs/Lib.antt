-- The position of a name, and what is asked of the bytes that a path is followed in.
pub mod Places
