-- The answers, taken apart by the arm that the code is in.
--
--   lead_at, factors_at, nilpotents_at       of the highest coefficient that is not nilpotent
--   value_at, splits_at, over_told           of the core
--   over_word, leave_at, over_found, over_splits, over_none    of a half over the content
--   found_at, divisors_at, parted_at, parted_from, nilpotent_at, later_at, other_at    of a half
--   unit_never, nilpotent_never, kind_splits    of the kind of a residue
--   attempts                                 the rules
use mathlib.Core.Path.{◌≡◌, refl, subst}
use mathlib.Core.List.{List}
use Prim.Native.Nat.{ℕ, ◌+◌, ◌-◌, ◌*◌, ◌/◌, ◌<◌}
use lib.ListN.{length}
use borrow.Rule.Slice.PartMut.{mid_of}
use Rattle.std.specs.Prelude.{Result, Ok, Err}
use Rattle.definitions.specs.Polynomials.{L}
use Rattle.residue.specs.declared.Split.{Split}
use Rattle.residue.specs.declared.Kind.{Kind}
use Rattle.residue.specs.declared.Kind.TheVariants.{Unit as UnitKind, Nilpotent as NilpotentKind, Splits as SplitsKind}
use Rattle.residue.specs.Kinds.{KindOf}
use Rattle.window_factor.specs.declared.Highest.{Highest}
use Rattle.window_factor.specs.declared.Highest.TheVariants.{UnitAt as UnitAt', Splits as SplitsAt, AllNilpotent}
use Rattle.window_factor.specs.Factors.{HighestOf, SplitOf}
use Rattle.windows.specs.Window.{Scratch}
use Rattle.reduced_units.specs.States.{Splitter}
use Rattle.reduced_cofactors.specs.Cofactors.{Certified, CoreAsked, CoreAnswer}
use Rattle.reduced_attempt.specs.declared.HalfAttempt.{HalfAttempt}
use Rattle.reduced_attempt.specs.declared.HalfAttempt.TheVariants.{Found, Divisors, Nilpotent}
use Rattle.reduced_attempt.specs.ReducedAttempts.{BothLeave, Left, NilpotentOver, HalvesAsked, OtherAsked, ScaledAsked}
use Rattle.reduced_attempt.specs.ReducedAttempts.{HalfAttempted, OverAsked, OverAttempted, Parted, Attempted}
use Rattle.reduced_attempt.proofs.Halves.{core_asked, unit_splits, over_nilpotents, nilpotents_told, over_splitter, product_word}
use Rattle.reduced_attempt.proofs.Halves.{leaving, half_certified, split_unit, split_nilpotent, split_factors}
use Rattle.reduced_attempt.proofs.Whole.{later_asked, parted, other_told}
use Rattle.reduced_attempt.proofs.Rules.{attempt}

-- over the content: the highest coefficient that is not nilpotent
module _ (n d e : ℕ) (w : List ℕ) (h : Highest ℕ) where
  abbrev told : Highest ℕ → Type 0
  told h = HighestOf n (mid_of (e + 1) (e + 1 + (d + 1) - (e + 1)) w) h

  pub lead_at : (t i : ℕ) (x y : List ℕ) → h ≡ UnitAt' t i → told h → OverAsked n d e x y w → CoreAsked n d e t i w x y
  lead_at t i x y q z o = core_asked o (subst told q z)

  pub factors_at : (p q : ℕ) (x y : List ℕ) → h ≡ SplitsAt p q → told h → OverAttempted n d e w x y x y (Divisors p q)
  factors_at p q x y r z = (unit_splits (subst told r z), (refl, refl))

  pub nilpotents_at : (x y : List ℕ) → h ≡ AllNilpotent → told h → OverAttempted n d e w x y x y Nilpotent
  nilpotents_at x y q z = (over_nilpotents d e w (subst told q z), (refl, refl))

-- the core
module _ (n d e : ℕ) (w x y x₁ y₁ : List ℕ) (s : Result ℕ (Split ℕ)) where
  pub value_at : (D : ℕ) → s ≡ Ok D → CoreAnswer n d e w x y x₁ y₁ s → OverAttempted n d e w x y x₁ y₁ (Found D)
  value_at D q = subst (CoreAnswer n d e w x y x₁ y₁) q

  pub splits_at : (o : Split ℕ) → s ≡ Err o → CoreAnswer n d e w x y x₁ y₁ s → OverAttempted n d e w x y x₁ y₁ (Divisors o.p o.q)
  splits_at o r = subst (CoreAnswer n d e w x y x₁ y₁) r

-- the modulus has a record of its own
pub over_told : (n ν d e : ℕ) (w x y x₁ y₁ : List ℕ) (z : HalfAttempt ℕ) → OverAttempted ν d e w x y x₁ y₁ z → ν ≡ n
    → OverAttempted n d e w x y x₁ y₁ z
over_told n ν d e w x y x₁ y₁ z o h = subst (λ (v : ℕ). OverAttempted v d e w x y x₁ y₁ z) h o

-- what it comes to over the content
module _ (n c r : ℕ) (a b x y w x₁ y₁ : List ℕ) (z : HalfAttempt ℕ) where
  abbrev over : HalfAttempt ℕ → Type 0
  over z = OverAttempted (n / c) (length a - 1) (length b - 1) w x y x₁ y₁ z

  pub over_word : (D m : ℕ) → z ≡ Found D → ScaledAsked n c r a b x y w → over z → n < m → c * D < m
  over_word D m q s o l = product_word s (subst over q o) l

  pub leave_at : (D : ℕ) → z ≡ Found D → ScaledAsked n c r a b x y w → over z → BothLeave n x₁ y₁
  leave_at D q s o = leaving s (subst over q o)

  pub over_found : (x₂ y₂ : List ℕ) (D : ℕ) → z ≡ Found D → ScaledAsked n c r a b x y w → over z → Left n r x₁ x₂ → Left n r y₁ y₂
      → Certified n (L n (length a - 1) (length b - 1)) a b x₂ y₂ (c * D)
  over_found x₂ y₂ D q s o lx ly = half_certified s (subst over q o) lx ly

  pub over_splits : (p q : ℕ) → z ≡ Divisors p q → ScaledAsked n c r a b x y w → over z → HalfAttempted n c a b x y x₁ y₁ (Divisors p q)
  over_splits p q e s o = over_splitter s (subst over e o)

  pub over_none : z ≡ Nilpotent → ScaledAsked n c r a b x y w → over z → HalfAttempted n c a b x y x₁ y₁ Nilpotent
  over_none e s o = let k = subst over e o in (nilpotents_told s.half s.words k.0, k.1)

module _ (n c : ℕ) (a b x y x' y' : List ℕ) (t : HalfAttempt ℕ) where
  pub found_at : (D : ℕ) → t ≡ Found D → HalfAttempted n c a b x y x' y' t → Certified n (L n (length a - 1) (length b - 1)) a b x' y' D
  found_at D e = subst (HalfAttempted n c a b x y x' y') e

  pub divisors_at : (p q : ℕ) → t ≡ Divisors p q → HalfAttempted n c a b x y x' y' t → Splitter n p q
  divisors_at p q e z = (subst (HalfAttempted n c a b x y x' y') e z).0

  pub parted_at : (p q : ℕ) (r : Result ℕ (Split ℕ)) → t ≡ Divisors p q → HalfAttempted n c a b x y x' y' t → Parted n r → Attempted n a b x y x' y' r
  parted_at p q r e z v = let k = (subst (HalfAttempted n c a b x y x' y') e z).1 in parted n a b x y x' y' r k.0 k.1 v

  pub parted_from : (p q : ℕ) (r : Result ℕ (Split ℕ)) → t ≡ Divisors p q → HalfAttempted n c a b x y x' y' t → Parted n r
      → Attempted n b a y x y' x' r
  parted_from p q r e z v = let k = (subst (HalfAttempted n c a b x y x' y') e z).1 in parted n b a y x y' x' r k.1 k.0 v

  pub nilpotent_at : t ≡ Nilpotent → HalfAttempted n c a b x y x' y' t → NilpotentOver n c a
  nilpotent_at e z = (subst (HalfAttempted n c a b x y x' y') e z).0

  pub later_at : (w w' : List ℕ) → t ≡ Nilpotent → HalfAttempted n c a b x y x' y' t → HalvesAsked n c a b x y w → Scratch w w'
      → OtherAsked n c a b x' y' w'
  later_at w w' e z h sw = let k = subst (HalfAttempted n c a b x y x' y') e z in later_asked h k.1.0 k.1.1 sw k.0

  pub other_at : (u v : List ℕ) (r : Result ℕ (Split ℕ)) → t ≡ Nilpotent → HalfAttempted n c a b x y x' y' t → Attempted n a b x' y' u v r
      → Attempted n a b x y u v r
  other_at u v r e z q = let k = (subst (HalfAttempted n c a b x y x' y') e z).1 in other_told n a b x y x' y' u v r k.0 k.1 q

module _ (n p : ℕ) (k : Kind ℕ) where
  pub unit_never : (q i : ℕ) → k ≡ UnitKind i → KindOf n p k → Splitter n p q → ⊥
  unit_never q i e x s = split_unit s (subst (KindOf n p) e x)

  pub nilpotent_never : (q : ℕ) → k ≡ NilpotentKind → KindOf n p k → Splitter n p q → ⊥
  nilpotent_never q e x s = split_nilpotent s (subst (KindOf n p) e x)

  pub kind_splits : (a b : ℕ) → k ≡ SplitsKind a b → KindOf n p k → SplitOf n a b
  kind_splits a b e x = split_factors (subst (KindOf n p) e x)

pub ruleset highest = (lead_at, factors_at, nilpotents_at, value_at, splits_at, over_told)

pub ruleset cores = (over_word, leave_at, over_found, over_splits, over_none)

pub ruleset half_attempts = (found_at, divisors_at, parted_at, parted_from, nilpotent_at, later_at, other_at)

pub ruleset kinds = (unit_never, nilpotent_never, kind_splits)

pub ruleset attempts = (attempt, highest, cores, half_attempts, kinds)
