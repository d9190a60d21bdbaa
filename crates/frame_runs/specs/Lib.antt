pub mod Working
pub mod Jobs
