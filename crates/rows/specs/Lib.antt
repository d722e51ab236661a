-- A row opened and judged.
pub mod Quick
pub mod Judging
