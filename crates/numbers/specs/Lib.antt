-- Numbers in bytes: what a reader must believe of them.
pub mod Little
