pub mod ClaimRefusals
