pub mod LeadingMinors
pub mod Elimination
