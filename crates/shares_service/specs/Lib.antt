pub mod GivingOut
pub mod SharesService
pub mod GivingLaws
pub mod ShareLaws
