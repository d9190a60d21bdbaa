pub mod Finishing
pub mod Solving
