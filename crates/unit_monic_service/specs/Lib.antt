pub mod FactorsService
pub mod UnitMonicStages
