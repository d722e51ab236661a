-- Laws of a lent document judged, for the operations above, and of the quick look at its value.

pub mod DocumentLaws
pub mod QuickLaws
