-- Laws of the members of a container in normal form.
pub mod ReachLaws
pub mod StandLaws
pub mod HeldLaws
pub mod FromLaws
pub mod ShapeLaws
pub mod OpenLaws
