pub mod Inverses
