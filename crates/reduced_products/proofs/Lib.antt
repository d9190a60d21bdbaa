pub mod Subtraction
pub mod Taking
