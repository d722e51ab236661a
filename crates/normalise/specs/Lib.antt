-- What the writing of a normal form answers, and what it does to two lent buffers.
pub mod Answered
