-- Laws of putting: what was put, scalars by what was written, heads by their room, and leftovers.
pub mod PutLaws
pub mod ScalarLaws
pub mod HeadLaws
pub mod LeftoverLaws
