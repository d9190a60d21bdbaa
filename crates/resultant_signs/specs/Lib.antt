pub mod AnyRing
pub mod Degrees
pub mod RunLaws
pub mod Signs
pub mod EliminationLaws
