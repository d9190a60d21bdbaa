pub mod LeastByDivision
