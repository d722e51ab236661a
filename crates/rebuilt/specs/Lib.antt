-- What a lawful row is rebuilt to, and what the walks through it stand on.
pub mod Members
pub mod Rebuilt
pub mod Using
pub mod Meant
pub mod There
