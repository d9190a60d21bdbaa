pub mod WhyService
pub mod Asked
pub mod WhyLaws
