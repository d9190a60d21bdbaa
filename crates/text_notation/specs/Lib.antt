pub mod Notation
pub mod Candidates
pub mod Examples
pub mod Quoted
