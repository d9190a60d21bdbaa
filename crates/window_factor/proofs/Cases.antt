-- The answers of the two enums of this width, taken apart by the arm that the code is in.
--
--   unit_kind, splits_kind, nilpotent_kind    of the kind of a residue
--   unit_at, splits_at, nilpotents_at         of the highest coefficient that is not nilpotent
--   kinds, highest                            the rules
use mathlib.Core.Path.{◌≡◌, subst}
use mathlib.Core.List.{List}
use Prim.Native.Nat.{ℕ}
use Rattle.definitions.specs.Residues.{Inverse, IsNilpotent}
use Rattle.residue.specs.declared.Kind.{Kind}
use Rattle.residue.specs.declared.Kind.TheVariants.{Unit as Unit', Nilpotent, Splits as Splits'}
use Rattle.residue.specs.Kinds.{KindOf}
use Rattle.window_factor.specs.declared.Highest.{Highest}
use Rattle.window_factor.specs.declared.Highest.TheVariants.{UnitAt as UnitAt', Splits as SplitsAt, AllNilpotent}
use Rattle.window_factor.specs.Factors.{HighestOf, LeadingUnit, SplitOf, AllNilpotents}
use Rattle.window_factor.proofs.HighestCoefficient.{leads, split_of}

module _ (n a : ℕ) (r : Kind ℕ) (p : KindOf n a r) where
  pub unit_kind : (i : ℕ) → r ≡ Unit' i → Inverse n a i
  unit_kind i e = subst (KindOf n a) e p

  pub splits_kind : (x y : ℕ) → r ≡ Splits' x y → SplitOf n x y
  splits_kind x y e = split_of (subst (KindOf n a) e p)

  pub nilpotent_kind : r ≡ Nilpotent → IsNilpotent n a
  nilpotent_kind e = subst (KindOf n a) e p

module _ (n : ℕ) (f : List ℕ) (h : Highest ℕ) (p : HighestOf n f h) where
  pub unit_at : (t i : ℕ) → h ≡ UnitAt' t i → LeadingUnit n t i f
  unit_at t i e = subst (HighestOf n f) e p

  pub splits_at : (x y : ℕ) → h ≡ SplitsAt x y → SplitOf n x y
  splits_at x y e = subst (HighestOf n f) e p

  pub nilpotents_at : h ≡ AllNilpotent → AllNilpotents n f
  nilpotents_at e = subst (HighestOf n f) e p

pub ruleset kinds = (leads, unit_kind, splits_kind, nilpotent_kind)

pub ruleset highest = (unit_at, splits_at, nilpotents_at)
