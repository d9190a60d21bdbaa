pub mod Decimals
pub mod Tops
pub mod CandidateLaws
pub mod NotationLaws
pub mod Lengths
