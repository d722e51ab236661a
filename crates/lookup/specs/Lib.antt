-- A name looked up in a dictionary.
pub mod Looking
