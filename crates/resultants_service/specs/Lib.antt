pub mod ResultantsService
