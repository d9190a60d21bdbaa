pub mod Leading
pub mod Multipliers
pub mod Reductions
pub mod Joining
