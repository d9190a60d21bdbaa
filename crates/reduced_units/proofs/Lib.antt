pub mod Regions
pub mod OverUnits
pub mod Splitting
pub mod Inverses
pub mod UnitFactor
