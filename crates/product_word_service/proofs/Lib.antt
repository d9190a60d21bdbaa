pub mod ProductWordReturns
