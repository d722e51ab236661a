-- A document's normal value cut along a schema.
pub mod Cutting
