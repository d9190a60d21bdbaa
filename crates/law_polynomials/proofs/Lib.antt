pub mod Between
pub mod NoUnit
