pub mod ShownByResultant
pub mod Cases
