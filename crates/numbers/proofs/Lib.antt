-- Laws of the numbers in bytes, for the proofs of this crate and of those above it.

pub mod Table
pub mod NumberLaws
pub mod PutLaws
pub mod WidthLaws
