-- Laws of the ids inside a value, and of a table that marks them.
pub mod UsedIdLaws
pub mod MarkLaws
pub mod RunLaws
pub mod ChildLaws
pub mod InsideLaws
pub mod ValueLaws
