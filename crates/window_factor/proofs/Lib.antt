pub mod Approaches
pub mod Cases
pub mod HighestCoefficient
pub mod Rounds
pub mod SeriesLaws
pub mod SeriesRounds
pub mod Uniqueness
