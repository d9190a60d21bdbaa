pub mod LawOfTheAnswers
pub mod HowFar
pub mod LawService
