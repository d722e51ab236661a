-- What a lawful row means, its names numbered, what a room for its document comes to, and what stands alone.
pub mod MeaningLaws
pub mod NumberedLaws
pub mod RoomLaws
pub mod LeftoverLaws
pub mod AloneLaws
