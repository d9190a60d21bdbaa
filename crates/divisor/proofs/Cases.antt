-- The answers, taken apart by the arm that the code is in.
--
--   windows_splits_at, division_at, value_at, split_at        of the stages
--   half-…-at                                                 of the two polynomials in the buffer
--   found_at, divisors_at, nilpotent_at, swapped_at, neither_at    of a half
--   answer_at, factors_at, first-…-at, second-…-at, product-…    of an attempt
--   coprime_at                                                  of the test
--   windows, half_attempts, fitting, attempts, trying, swappings, recorded, falling, factors, products    the rules
use mathlib.Core.Bool.{Bool, true}
use mathlib.Core.Path.{◌≡◌, subst}
use mathlib.Core.List.{List}
use Prim.Native.Nat.{ℕ, ◌+◌, ◌-◌, ◌*◌, ◌≤◌, ◌<◌}
use native.Mathlib.Nat.{le_refl}
use mir.Syntax.{Width}
use mir.Val.{Fits}
use borrow.Author.Rules.{rules}
use Rattle.std.specs.Prelude.{Result, Ok, Err}
use Rattle.definitions.specs.Resultants.{Reduced}
use Rattle.windows.specs.Window.{piece}
use Rattle.window_factor.specs.Factors.{SplitOf}
use Rattle.reduced_units.specs.States.{Splitter}
use Rattle.residue.specs.declared.Split.{Split}
use Rattle.reduced_attempt.specs.ReducedAttempts.{NilpotentOver}
use Rattle.window_factor.specs.declared.Highest.{Highest}
use Rattle.window_factor.specs.declared.Highest.TheVariants.{UnitAt as UnitAt', Splits as SplitsAt}
use Rattle.reduced_attempt.specs.declared.HalfAttempt.{HalfAttempt}
use Rattle.reduced_attempt.specs.declared.HalfAttempt.TheVariants.{Found, Divisors, Nilpotent}
use Rattle.coprime_test.specs.CoprimeAttempted.{CoprimeAttempted}
use Rattle.divisor_stages.specs.LeadingUnits.{Leading, LeadAnswer}
use Rattle.divisor_stages.specs.DivisorStages.{DivisionAsked, DivisorOrSplit}
use Rattle.divisor_stages.proofs.Cases.{lead_at, lead_splits_at, lead_nilpotents_at}
use Rattle.divisor.specs.DivisorAttempts.{Padded, WindowsAsked, WindowsAnswer, HalfAsked, HalfAttempted, Attempted}
use Rattle.divisor.proofs.Halves.{over_one, halves, rounds}
use Rattle.divisor.proofs.Halves.{windows_splitter, windows_division, windows_reduced}
use Rattle.divisor.proofs.Halves.{half_positive, half_reduced, half_fits, half_splitter, half_nilpotents}
use Rattle.divisor.proofs.Halves.{swapped_reduced, neither_reduced}
use Rattle.divisor.proofs.Halves.{split_first, split_second, product_below, product_reduced}

module _ {n m : ℕ} {w : List ℕ} (w₁ : List ℕ) (h : Highest ℕ) (wa : WindowsAsked n m w) (p : LeadAnswer n m m (2 * m) w w₁ h) where
  pub windows_splits_at : (x y : ℕ) → h ≡ SplitsAt x y → Splitter n x y
  windows_splits_at x y e = windows_splitter wa (lead_splits_at n m m (2 * m) w w₁ h p x y e)

  module _ (t i : ℕ) (e : h ≡ UnitAt' t i) where
    leading : Leading n m m t i (2 * m) w w₁
    leading = lead_at n m m (2 * m) w w₁ h p t i e

    pub division_at : DivisionAsked n 0 (m - 1) m t i (2 * m) w₁
    division_at = windows_division wa leading

    module _ (r : Result ℕ (Split ℕ)) (q : DivisorOrSplit n (piece w₁ 0 (m - 1 + 1)) (piece w₁ m (t + 1)) r) where
      pub value_at : (D : ℕ) → r ≡ Ok D → Reduced n (piece w m m) (piece w 0 m) D
      value_at D o = windows_reduced wa leading (subst (DivisorOrSplit n (piece w₁ 0 (m - 1 + 1)) (piece w₁ m (t + 1))) o q)

      pub split_at : (s : Split ℕ) → r ≡ Err s → Splitter n s.p s.q
      split_at s o = subst (DivisorOrSplit n (piece w₁ 0 (m - 1 + 1)) (piece w₁ m (t + 1))) o q

module _ {n v c m : ℕ} {f g w w₁ : List ℕ} (r : HalfAttempt ℕ) (ha : HalfAsked n v c f g w) (pd : Padded n c m f g w w₁)
    (p : WindowsAnswer v m w₁ r) where
  answer : (z : HalfAttempt ℕ) → r ≡ z → WindowsAnswer v m w₁ z
  answer z e = subst (WindowsAnswer v m w₁) e p

  pub half_found_at : (D : ℕ) → r ≡ Found D → Reduced n f g (c * D)
  half_found_at D e = half_reduced ha pd (answer (Found D) e)

  pub half_fits_at : {W : Width} (y D : ℕ) → r ≡ Found D → Fits W n → y ≤ c → Fits W (y * D)
  half_fits_at y D e = half_fits ha pd y (answer (Found D) e)

  pub half_divisors_at : (x y : ℕ) → r ≡ Divisors x y → Splitter n x y
  half_divisors_at x y e = half_splitter ha (answer (Divisors x y) e)

  pub half_nilpotent_at : r ≡ Nilpotent → NilpotentOver n c f
  half_nilpotent_at e = half_nilpotents ha pd (answer Nilpotent e)

module _ (n c : ℕ) (f g : List ℕ) (r : HalfAttempt ℕ) (p : HalfAttempted n c f g r) where
  pub found_at : (D : ℕ) → r ≡ Found D → Reduced n f g D
  found_at D e = subst (HalfAttempted n c f g) e p

  pub divisors_at : {n' x' y' : ℕ} (x y : ℕ) → r ≡ Divisors x y → n' ≡ n → x' ≡ x → y' ≡ y → Splitter n' x' y'
  divisors_at x y e e₁ e₂ e₃ = rw (e₁, e₂, e₃) (subst (HalfAttempted n c f g) e p)

  pub nilpotent_at : {n' c' : ℕ} {f' : List ℕ} → r ≡ Nilpotent → n' ≡ n → c' ≡ c → f' ≡ f → NilpotentOver n' c' f'
  nilpotent_at e e₁ e₂ e₃ = rw (e₁, e₂, e₃) (subst (HalfAttempted n c f g) e p)

  -- of the half with the polynomials in the other order
  module _ {v : ℕ} {w : List ℕ} (ha : HalfAsked n v c g f w) where
    pub swapped_at : (D : ℕ) → r ≡ Found D → Reduced n g f D
    swapped_at D e = swapped_reduced ha (found_at D e)

    pub neither_at : (D : ℕ) → NilpotentOver n c g → r ≡ Nilpotent → Reduced n g f D
    neither_at D x e = neither_reduced ha x (subst (HalfAttempted n c f g) e p)

-- by the record of n
pub two_by : {n k : ℕ} → k ≡ n → 2 ≤ n → 2 ≤ k
two_by is two = rw is two

pub by_record : (n k : ℕ) (f g : List ℕ) (r : Result ℕ (Split ℕ)) → Attempted k f g r → k ≡ n → Attempted n f g r
by_record n k f g r p is = subst (λ (x : ℕ). Attempted x f g r) is p

module _ (n : ℕ) (f g : List ℕ) (r : Result ℕ (Split ℕ)) (p : Attempted n f g r) where
  pub answer_at : (D : ℕ) → r ≡ Ok D → Reduced n f g D
  answer_at D e = subst (Attempted n f g) e p

  module _ (s : Split ℕ) (e : r ≡ Err s) where
    pub factors_at : SplitOf n s.p s.q
    factors_at = subst (Attempted n f g) e p

    pub first_above_at : {x' : ℕ} → x' ≡ s.p → 2 ≤ x'
    first_above_at o = rw o factors_at.above₁

    pub second_above_at : {y' : ℕ} → y' ≡ s.q → 2 ≤ y'
    second_above_at o = rw o factors_at.above₂

    pub first_falls_at : (t : ℕ) → n ≡ t → s.p < t
    first_falls_at = split_first factors_at

    pub second_falls_at : (t : ℕ) → n ≡ t → s.q < t
    second_falls_at = split_second factors_at

    module _ {D₁ D₂ : ℕ} (u : Reduced s.p f g D₁) (v : Reduced s.q f g D₂) where
      pub product_below_at : (B : ℕ) → n < B → D₁ * D₂ < B
      product_below_at = product_below factors_at u v

      pub product_at : (z : ℕ) → z ≡ D₁ * D₂ → Reduced n f g z
      product_at = product_reduced factors_at u v

pub coprime_at : (n : ℕ) (f g : List ℕ) (b : Bool) → CoprimeAttempted n f g b → b ≡ true → Reduced n f g 1
coprime_at n f g b p e = subst (CoprimeAttempted n f g) e p

pub ruleset windows = (rules, over_one, lead_nilpotents_at, windows_splits_at, division_at, value_at, split_at)

pub ruleset half_attempts = (halves, half_found_at, half_divisors_at, half_nilpotent_at)

pub ruleset fitting = (le_refl, half_positive, half_fits_at)

pub ruleset attempts = (rounds, found_at, coprime_at)

pub ruleset trying = (divisors_at, nilpotent_at)

pub ruleset swappings = (rounds, swapped_at, neither_at, divisors_at)

pub ruleset falling = (first_falls_at, second_falls_at)

pub ruleset factors = (first_above_at, second_above_at)

pub ruleset recorded = (rules, by_record, two_by)

pub ruleset products = (rules, answer_at, product_below_at, product_at)
