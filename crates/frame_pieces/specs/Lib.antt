pub mod Inputs
pub mod Newlines
