pub mod Strips
pub mod Steps
pub mod EuclidRounds
pub mod Starts
pub mod Loads
pub mod Scaled
