pub mod Cells
pub mod Clearing
pub mod TwoRows
