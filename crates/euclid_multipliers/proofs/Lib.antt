pub mod Trailing
pub mod Logging
pub mod Descents
pub mod Rounds
pub mod Starting
pub mod Finishing
