-- Laws of notes: places of a list, notes added to the tables, members merged.
pub mod FrontLaws
pub mod AddedLaws
pub mod ElementLaws
pub mod LowLaws
pub mod LeftLaws
pub mod MemberLaws
pub mod FieldLaws
