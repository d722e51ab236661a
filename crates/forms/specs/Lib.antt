-- What the laws of normal form speak of.
pub mod WellFormed
