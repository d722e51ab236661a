-- Laws of rows judged.
pub mod QuickLaws
pub mod WalkLaws
pub mod JudgeLaws
