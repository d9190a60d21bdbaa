pub mod Clearings
