pub mod DivisorService
