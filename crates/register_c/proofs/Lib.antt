-- Laws of what the functions for C answer.
pub mod OneAnswer
