-- Whether a leftover has a name that its node names.
pub mod Shared
