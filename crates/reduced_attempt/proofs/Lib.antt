pub mod Scalings
pub mod Halves
pub mod Whole
pub mod Rules
pub mod Cases
