pub mod Divisions
pub mod Preparing
pub mod Placing
