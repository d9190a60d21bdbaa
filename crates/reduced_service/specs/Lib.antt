pub mod ReducedService
pub mod Constants
pub mod Asked
