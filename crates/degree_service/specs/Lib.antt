pub mod DegreeService
