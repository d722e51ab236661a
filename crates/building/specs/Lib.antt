-- What the writers of a row stand on.
pub mod Building
