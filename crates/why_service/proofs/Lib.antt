pub mod Grounds
pub mod WhyReturns
