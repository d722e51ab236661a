-- Laws of doubles, of an object's fields, and of boxes.

pub mod DoubleLaws
pub mod MemberLaws
pub mod SideLaws
pub mod BoxLaws
