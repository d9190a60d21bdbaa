pub mod InverseReturns
pub mod Inverses
