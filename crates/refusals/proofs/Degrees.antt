-- The sum of two sent degrees, as code takes it from the lengths.
use mathlib.Core.Path.{◌≡◌, ap₂}
use mathlib.Core.List.{List}
use Prim.Native.Nat.{ℕ, ◌+◌, ◌-◌}
use native.Mathlib.Numerals.{sub-one}
use lib.ListN.{length}
use Rattle.definitions.specs.Polynomials.{deg}

pub degrees_are : (f g : List ℕ) → length f - 1 + (length g - 1) ≡ deg f + deg g
degrees_are f g = ap₂ ◌+◌ (sub-one (length f)) (sub-one (length g))
