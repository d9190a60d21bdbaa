pub mod AttemptAnswers
pub mod Layouts
