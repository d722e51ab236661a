-- What is answered of a container's shape, in the words of 01's values.
pub mod Children
pub mod Marks
pub mod Layouts
