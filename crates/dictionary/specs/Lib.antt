-- What is read of metadata, by the definitions of 01.
pub mod Judging
pub mod Lent
