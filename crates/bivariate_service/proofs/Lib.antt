pub mod Primes
pub mod BivariateReturns
