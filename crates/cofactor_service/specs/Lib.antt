pub mod CofactorService
