-- Parts of a value put in front of a place of a room.
pub mod Put
