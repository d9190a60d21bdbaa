pub mod Common
pub mod CommonLaws
pub mod Searches
