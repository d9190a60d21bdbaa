pub mod Copying
pub mod ReadReturns
