-- Laws of looking a name up, for the crates above.
pub mod TellsLaws
pub mod IdLaws
pub mod HalvingLaws
pub mod OrderedLaws
