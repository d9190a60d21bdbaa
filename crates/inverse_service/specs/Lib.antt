pub mod InverseService
pub mod InverseStages
