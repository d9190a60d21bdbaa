pub mod Interpolated
pub mod NewtonWords
