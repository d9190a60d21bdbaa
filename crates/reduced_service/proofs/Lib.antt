pub mod ReducedReturns
pub mod OneWord
