pub mod Carries
pub mod Sums
