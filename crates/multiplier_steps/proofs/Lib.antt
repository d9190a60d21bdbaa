pub mod Windows
pub mod Lifting
