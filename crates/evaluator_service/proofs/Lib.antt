pub mod Filling
pub mod Statuses
