pub mod Sizes
pub mod PairRounds
