-- A document normalised into scratch.
pub mod ScratchLaws
pub mod AloneLaws
