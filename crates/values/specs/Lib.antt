-- What the walker's inner functions answer, in the words of 01's values.
pub mod Insides
