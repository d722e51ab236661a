-- Laws of schemas by position, for the crates above.
pub mod FramingLaws
pub mod FrameLaws
pub mod FieldFrameLaws
pub mod NodeLaws
pub mod FieldLaws
pub mod ObjectLaws
pub mod StandingLaws
pub mod FieldsStandLaws
pub mod KindLaws
pub mod WalkLaws
pub mod GoodLaws
pub mod WrittenLaws
pub mod BackLaws
