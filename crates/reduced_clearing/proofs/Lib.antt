pub mod ContentSteps
pub mod UnitSteps
