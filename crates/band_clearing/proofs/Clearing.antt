-- What a step on two rows of a column asks.
--
--   pair_asked, pair_heads     the rows, and their first words
--   clearings                  the rules
use mathlib.Core.Logic.{◌≢◌}
use mathlib.Core.List.{List}
use Prim.Native.Nat.{ℕ}
use native.Mathlib.Omega.{arith}
use Rattle.band_clearing.specs.Bands.{HeadsBelow, KeepsTwo, PairAsked, RowAsked}
use Rattle.band_clearing.proofs.TwoRows.{cleared_same, cleared_none, cleared_after}

pub pair_heads : {n b d e i k : ℕ} {w w' : List ℕ} → RowAsked n b d e i k w → KeepsTwo n b d e i k w w' → HeadsBelow n w'
pair_heads a h = h.heads a.heads

pub pair_asked : {n b d e i k : ℕ} {w w' : List ℕ} → RowAsked n b d e i k w → KeepsTwo n b d e i k w w' → i ≢ k → PairAsked n b d e i k w'
pair_asked a h z = record {
  modulus = a.modulus;
  shape = a.shape;
  row = a.row;
  other = a.other;
  apart = z;
  room = omega (arith, a.room, h.same);
}

pub ruleset clearings = (pair_asked, pair_heads, cleared_same, cleared_none, cleared_after)
