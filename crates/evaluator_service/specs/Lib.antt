pub mod EvaluatorService
pub mod Sylvester
pub mod SylvesterRows
