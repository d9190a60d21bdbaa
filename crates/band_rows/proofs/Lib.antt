pub mod ColumnTurns
pub mod Ends
pub mod Rows
