pub mod ResultantService
