pub mod ProductWord
pub mod WordByWord
