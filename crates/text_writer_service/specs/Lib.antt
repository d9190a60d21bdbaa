pub mod Parts
pub mod TextWriter
