-- Laws of how a container's children lie, for the shape's own functions and for the crates above.
pub mod CoverLaws
pub mod ChildLaws
pub mod LengthLaws
pub mod OwnLaws
pub mod BitLaws
pub mod MarkLaws
pub mod WalkLaws
pub mod CoveredLaws
pub mod FieldLaws
pub mod LayoutLaws
pub mod ShapeLaws
