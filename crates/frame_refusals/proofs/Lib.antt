pub mod JobListed
