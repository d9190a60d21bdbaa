pub mod Squares
pub mod Widths
pub mod Negatives
