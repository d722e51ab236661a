-- Laws of the writer: what ends at a place, scalars, ids, offsets, heads, then whole values, and what they mean.
pub mod EndLaws
pub mod ScalarLaws
pub mod IdLaws
pub mod OffsetLaws
pub mod OffsetLoopLaws
pub mod OpeningLaws
pub mod HeadLaws
pub mod RewrittenLaws
pub mod InsideLaws
pub mod ChildrenLaws
pub mod PartsLaws
pub mod WriterLaws
pub mod AsItStandsLaws
pub mod MeaningLaws
