pub mod LineRounds
