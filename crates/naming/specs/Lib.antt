-- What is asked of the names that normal metadata is written for.
pub mod Chosen
