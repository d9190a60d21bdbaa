pub mod PendingAnswers
pub mod Stepping
