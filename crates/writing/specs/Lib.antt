-- What is written, and where.
pub mod Ends
pub mod Heads
pub mod Rewritten
pub mod Written
