pub mod PendingLines
