pub mod Eights
pub mod Spelling
pub mod Values
