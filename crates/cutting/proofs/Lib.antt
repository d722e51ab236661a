-- What the writers of a row stand on.
pub mod SkipLaws
pub mod PassLaws
pub mod FieldLaws
pub mod FieldsLaws
pub mod ColumnLaws
pub mod NodeLaws
pub mod ListLaws
pub mod ObjectLaws
pub mod MissingLaws
