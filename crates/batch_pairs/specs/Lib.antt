pub mod Batches
pub mod Asked
pub mod Singles
