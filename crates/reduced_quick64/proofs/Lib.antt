pub mod QuickAttempts
