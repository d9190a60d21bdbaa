pub mod Frames
pub mod Lending
pub mod FrameLaws
