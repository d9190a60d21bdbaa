pub mod Putting
pub mod Terms
pub mod WriteReturns
