-- Notes of what is to be written, in the order in which it is read.
pub mod Notes
pub mod Adding
