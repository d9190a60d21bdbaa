pub mod UnitMonicReturns
pub mod LeadingPlace
pub mod Parts
pub mod Tests
pub mod HandingRounds
pub mod Ends
