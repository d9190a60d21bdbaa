pub mod Plain
pub mod Steps
pub mod Eliminations
pub mod EuclidStages
pub mod Backs
pub mod Trails
pub mod Multiplied
