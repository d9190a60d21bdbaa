pub mod Asking
pub mod Frames
