-- Laws of what the operations answer.
pub mod CellLaws
pub mod DocumentAnswers
pub mod NormaliseLaws
pub mod FoundLaws
pub mod OneAnswer
pub mod RowOutcomes
pub mod RowAnswers
pub mod ShredLaws
pub mod RebuildLaws
