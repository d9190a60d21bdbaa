pub mod Factors
pub mod Contents
pub mod Divisions
pub mod Cases
