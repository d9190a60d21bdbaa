pub mod ProductReturns
