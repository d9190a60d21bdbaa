pub mod SmallModuli
