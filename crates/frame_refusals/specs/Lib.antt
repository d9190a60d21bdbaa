pub mod FrameRefusals
pub mod JobLaws
