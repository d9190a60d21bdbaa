pub mod Putting
pub mod Scaling
