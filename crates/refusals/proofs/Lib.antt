pub mod Words
pub mod Statuses
pub mod Cascade
pub mod Degrees
