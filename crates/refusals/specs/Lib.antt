pub mod Refusal
pub mod Refusals
pub mod Conditions
pub mod Fronts
