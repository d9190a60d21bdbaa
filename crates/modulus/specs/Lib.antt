pub mod Values
pub mod LeftValues
