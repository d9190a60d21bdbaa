-- What is asked and promised of the cofactors by rows: see band_clearing/Bands.
pub use Rattle.band_clearing.specs.Bands.{Scaled, CofactorsAsked, ResultantCofactors}
