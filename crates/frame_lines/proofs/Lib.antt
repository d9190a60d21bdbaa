pub mod Heads
pub mod Putting
pub mod WordsRead
