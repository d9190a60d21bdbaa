pub mod Checks
pub mod Expansions
pub mod Polynomials
pub mod Residues
pub mod Resultants
pub mod Bivariate
