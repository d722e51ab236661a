-- Laws of what shred writes.
pub mod CellLaws
pub mod FieldLaws
pub mod FewerLaws
pub mod FittingLaws
pub mod PieceLaws
pub mod PlaceLaws
pub mod LawfulLaws
pub mod MergedLaws
pub mod MeaningLaws
pub mod RowLaws
pub mod ColumnLaws
pub mod ShredLaws
