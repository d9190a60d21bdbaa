pub mod Contents
pub mod SideBySide
pub mod Splitting
pub mod AnswerChanges
