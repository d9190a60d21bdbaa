pub mod Padding
pub mod Services
