pub mod DivisionReturns
pub mod Quotients
