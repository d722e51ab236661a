-- Laws of places.
pub mod VerdictLaws
pub mod PartLaws
pub mod PlaceLaws
pub mod StepLaws
pub mod HalfLaws
pub mod LeftLaws
pub mod RuleLaws
