-- Laws of the reader of one cell.

pub mod CodeLaws
pub mod FloatLaws
pub mod CellLaws
