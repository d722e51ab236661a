-- laws
pub mod NotesLaws
pub mod ElementLaws
pub mod MemberLaws
pub mod LeftLaws
pub mod GrowthLaws
pub mod ReadyLaws
pub mod LoopLaws
pub mod FilledLaws
pub mod ObjectLaws
pub mod PlacedLaws
pub mod CallLaws
pub mod ListLaws
pub mod NotedLaws
