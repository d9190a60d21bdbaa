pub mod FactorsService
pub mod FactorsListed
pub mod Histories
