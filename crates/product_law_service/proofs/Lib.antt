pub mod SevenCalls
pub mod HowFarReturns
