-- A document to be shredded.
pub mod Alone
