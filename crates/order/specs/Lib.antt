-- The order of byte strings: what a reader must believe of it.
pub mod Before
pub mod Agreed
