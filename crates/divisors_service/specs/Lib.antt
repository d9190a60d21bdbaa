pub mod DivisorsService
