-- What gathering the ids of a row asks.
pub mod Gathering
