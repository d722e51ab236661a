-- Laws of normal form.
pub mod WellFormedLaws
pub mod FirstByteLaws
pub mod ScalarLaws
pub mod PartLaws
pub mod LaidLaws
pub mod ContainerLaws
pub mod BackLaws
pub mod NamesLaws
pub mod NormalLaws
pub mod LieLaws
pub mod WiderLaws
pub mod GrowthLaws
