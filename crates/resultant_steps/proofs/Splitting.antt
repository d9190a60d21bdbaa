-- A residue that splits n gives a split of n, as `window_factor` has it.
pub use Rattle.window_factor.proofs.HighestCoefficient.{split_of}
