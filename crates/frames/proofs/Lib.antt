-- Laws of frames.
pub mod PieceLaws
pub mod FrameLaws
pub mod BackLaws
