pub mod Lines
pub mod LineLaws
pub mod Pieces
pub mod Whole
pub mod Cuts
