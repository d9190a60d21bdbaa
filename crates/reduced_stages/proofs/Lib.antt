pub mod Steps
pub mod Endings
pub mod Cases
