pub mod ClaimService
