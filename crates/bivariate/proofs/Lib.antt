pub mod Evaluating
pub mod Interpolating
