-- Normal ids for the names used: which ids are chosen, in which order, and what each used id's normal id is.
pub mod Ranks
pub mod Merging
