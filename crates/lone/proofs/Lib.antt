-- Laws of a document alone: how long a cell is, and what is answered.
pub mod LoneLaws
