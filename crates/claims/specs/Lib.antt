pub mod Claims
pub mod Failures
pub mod ClaimLaws
