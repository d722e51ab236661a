-- Laws of first bytes and of extents, for the proofs of this crate and of those above it.

pub mod ReadingLaws
pub mod PackLaws
pub mod TableLaws
pub mod HeadLaws
pub mod ExtentLaws
