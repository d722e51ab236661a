-- Laws of the signed numbers in bytes, for the proofs of this crate and of those above it.

pub mod SignedLaws
