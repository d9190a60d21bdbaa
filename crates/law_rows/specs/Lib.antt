pub mod Band
pub mod LiveRows
pub mod Leaving
pub mod LiveWords
pub mod WordSteps
