-- Laws of normal metadata written.
pub mod LeftLaws
pub mod ChosenLaws
pub mod SizeLaws
pub mod LoopLaws
