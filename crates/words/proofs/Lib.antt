-- Laws of what crosses the C boundary.
pub mod BoundaryLaws
pub mod BitsLaws
pub mod BoxLaws
