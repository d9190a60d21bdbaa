pub mod Halves
pub mod Reciprocals
pub mod Montgomery
