-- Laws of what is chosen, written and answered.
pub mod AnswerLaws
pub mod NumberedLaws
pub mod StandingLaws
