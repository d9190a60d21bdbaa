pub mod BivariateAnswers
pub mod BivariateService
