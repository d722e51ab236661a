-- Laws of a leftover's kind, and of the names that it shares with its node.
pub mod LeftKindLaws
pub mod SharedLaws
pub mod MergeLaws
pub mod ClashLaws
