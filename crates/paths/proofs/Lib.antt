-- Laws of finding a path in a lawful value, for the crates above.
pub mod PositionLaws
pub mod PlaceLaws
pub mod PathLaws
pub mod HeldLaws
pub mod PartLaws
pub mod LawfulLaws
pub mod StepLaws
pub mod FindLaws
