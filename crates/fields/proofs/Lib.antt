-- Laws of the table of field ids, for the crates above.
pub mod EntryLaws
pub mod TellingLaws
pub mod SpotLaws
pub mod ApartLaws
pub mod ScanLaws
pub mod FillLaws
pub mod NamesLaws
