pub mod States
pub mod Factorings
