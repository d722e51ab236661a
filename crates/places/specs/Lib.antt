-- The places of a row: what each comes to, by its parts and by what stands inside it.
pub mod Verdicts
pub mod Parts
pub mod Frames
pub mod Halves
pub mod Leftovers
pub mod Walking
