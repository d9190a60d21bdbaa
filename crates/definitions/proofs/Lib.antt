pub mod NotTheGcd
