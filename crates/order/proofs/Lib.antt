-- Laws of the order of byte strings, for the proofs of this crate and for the crates above.
pub mod OrderLaws
pub mod AgreedLaws
pub mod LessLaws
