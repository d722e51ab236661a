-- Laws of dictionaries, for the proofs of this crate and of those above it.

pub mod ChainLaws
pub mod OffsetLaws
pub mod WalkLaws
pub mod DictionaryLaws
pub mod LentLaws
pub mod JudgeLaws
pub mod NameLaws
