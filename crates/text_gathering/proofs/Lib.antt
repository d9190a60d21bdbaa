pub mod Comparing
pub mod Gathering
