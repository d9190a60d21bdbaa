pub mod Hexadecimal
pub mod Readings
pub mod DigitLaws
pub mod Joining
