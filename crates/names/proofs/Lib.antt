-- Laws of a normal dictionary's names and metadata, for the crates above.

pub mod RunLaws
pub mod SameLaws
pub mod RisingLaws
pub mod UsedLaws
pub mod IdLaws
pub mod MetadataLaws
pub mod ContainedLaws
pub mod NeverLongerLaws
pub mod FewLaws
