-- What the judging of a lent document answers.
pub mod Judged
