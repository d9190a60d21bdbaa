pub mod DivisionService
pub mod DivisionStages
