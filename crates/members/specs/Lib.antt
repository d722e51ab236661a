-- A container in normal form, its members by position.
pub mod Members
