-- Laws of normal ids.
pub mod HeldLaws
pub mod BehindLaws
pub mod CollectLaws
pub mod PlaceLaws
pub mod FoldLaws
pub mod OrderedLaws
pub mod MergeLaws
pub mod SortLaws
pub mod HalfLaws
pub mod SortedHalfLaws
pub mod RankLaws
pub mod MarkedLaws
pub mod ChosenLaws
