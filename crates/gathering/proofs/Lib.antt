-- Laws of gathering.
pub mod PresentLaws
pub mod PlaceLaws
pub mod PlainLaws
pub mod WalkLaws
