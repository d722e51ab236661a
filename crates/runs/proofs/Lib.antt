-- Laws of runs of numbers, for the proofs of this crate and of those above it.

pub mod NumbersRunLaws
