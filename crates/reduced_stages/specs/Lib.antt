pub mod StageAnswers
