pub mod CofactorReturns
