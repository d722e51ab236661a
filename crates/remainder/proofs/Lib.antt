-- Laws of what is left over of an object.
pub mod PassLaws
pub mod CopyLaws
pub mod UnnamedLaws
pub mod NamedLaws
pub mod TableLaws
pub mod LeftLaws
pub mod NoteLaws
pub mod FilledLaws
pub mod RestLaws
