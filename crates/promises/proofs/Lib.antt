-- The promises shown: laws by topic, and a file to a demand.
pub mod TableLaws
pub mod AnyBytes
pub mod Buffers
pub mod DoneLaws
pub mod WalkingLaws
pub mod ShownLaws
pub mod Walking
pub mod SoundLaws
pub mod RebuiltLaws
pub mod Columns
pub mod OneRow
pub mod Screens
pub mod FindLaws
pub mod Finding
pub mod ShutOut
