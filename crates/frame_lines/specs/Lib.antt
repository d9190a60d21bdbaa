pub mod FrameLines
pub mod Kinds
pub mod Heads
