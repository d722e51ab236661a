-- Each schema field's id in a dictionary.
pub mod Telling
