pub mod Factors
