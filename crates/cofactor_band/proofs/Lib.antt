pub mod ColumnRounds
