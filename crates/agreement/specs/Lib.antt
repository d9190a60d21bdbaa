pub mod Agreement
pub mod DivisorAlone
pub mod OwnAnswers
