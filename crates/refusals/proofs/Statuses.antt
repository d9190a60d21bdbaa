-- A service's status at each place where it returns, and what it leaves then.
--
--   row_applies, row_passes       a refusal at the front of the list that applies, or does not
--   refused_early, passed_on      the same of a part of the list at the front
--   front_passes                  no refusal of that part applies where none of the list does
--   refused_value, left_refused, replaced_refused     the value and the lent words after a refusal
--   number_some                   no refusal has the number 0
use mathlib.Core.Path.{◌≡◌, refl, sym, ap, ◌∙◌}
use mathlib.Core.Bool.{Bool, true, false, cond}
use mathlib.Core.List.{List, [], ◌∷◌, ◌++◌}
use Prim.Native.Nat.{ℕ, zero, suc, ◌≤◌, ◌<◌}
use native.Mathlib.Omega.{arith}
use borrow.Author.Tests.{lt-ltb, le-ltb}
use Rattle.refusals.specs.declared.Refusal.{Refusal}
use Rattle.refusals.specs.declared.Refusal.TheVariants.{BadModulus, BadLength, BadWord, LeadNoUnit, NoUnitFactor, ShortResult, ShortWork}
use Rattle.refusals.specs.declared.Refusal.TheVariants.{NoFrame, NoCofactors, EmptyTop, PrimeDivides, TooManyPoints, FactorsFull, BadNumber}
use Rattle.refusals.specs.declared.Refusal.TheVariants.{BadFrames, BadMultiplier, NoText}
use Rattle.refusals.specs.Refusal.{number_of}
use Rattle.refusals.specs.Refusals.{Tested, short, first_of, first_refusal, answered, left, replaced}

pub row_applies : (k : ℕ) (b : Bool) (r : List Tested) → b ≡ true → suc k ≡ first_refusal ((suc k, b) ∷ r)
row_applies k b r e = sym (ap (λ (t : Bool). first_of (cond t (suc k) 0) (first_refusal r)) e)

pub row_passes : (k : ℕ) (b : Bool) (r : List Tested) (s : ℕ) → b ≡ false → s ≡ first_refusal r → s ≡ first_refusal ((k, b) ∷ r)
row_passes k b r s e h = h ∙ sym (ap (λ (t : Bool). first_of (cond t k 0) (first_refusal r)) e)

-- a buffer of l words that needs m
pub too_short : (k l m : ℕ) (r : List Tested) → l < m → suc k ≡ first_refusal ((suc k, short l m) ∷ r)
too_short k l m r h = row_applies k (short l m) r (lt-ltb l m h)

pub long_enough : (k l m : ℕ) (r : List Tested) (s : ℕ) → m ≤ l → s ≡ first_refusal r → s ≡ first_refusal ((k, short l m) ∷ r)
long_enough k l m r s h e = row_passes k (short l m) r s (le-ltb l m h) e

first_assoc : (a b c : ℕ) → first_of (first_of a b) c ≡ first_of a (first_of b c)
first_assoc zero b c = refl
first_assoc (suc a) b c = refl

pub first_append : (a b : List Tested) → first_refusal (a ++ b) ≡ first_of (first_refusal a) (first_refusal b)
first_append [] b = refl
first_append (t ∷ a) b =
    ap (first_of (cond t.1 t.0 0)) (first_append a b)
    ∙ sym (first_assoc (cond t.1 t.0 0) (first_refusal a) (first_refusal b))

first_is : (a b s : ℕ) → s ≡ a → (s ≡ 0 → ⊥) → s ≡ first_of a b
first_is zero b s e n = absurd (n e)
first_is (suc a) b s e n = e

next_is : (a b s : ℕ) → a ≡ 0 → s ≡ b → s ≡ first_of a b
next_is zero b s z e = e
next_is (suc a) b s z e = absurd (omega arith)

pub refused_early : (a b : List Tested) (s : ℕ) → s ≡ first_refusal a → (s ≡ 0 → ⊥) → s ≡ first_refusal (a ++ b)
refused_early a b s e n = first_is (first_refusal a) (first_refusal b) s e n ∙ sym (first_append a b)

pub passed_on : (a b : List Tested) (s t : ℕ) → s ≡ first_refusal a → s ≡ 0 → t ≡ first_refusal b → t ≡ first_refusal (a ++ b)
passed_on a b s t e z h = next_is (first_refusal a) (first_refusal b) t (sym e ∙ z) h ∙ sym (first_append a b)

pub front_passes : (a b : List Tested) → first_refusal (a ++ b) ≡ 0 → first_refusal a ≡ 0
front_passes a b z = go (first_refusal a) (sym (first_append a b) ∙ z)
  where
    go : (x : ℕ) → first_of x (first_refusal b) ≡ 0 → x ≡ 0
    go zero e = refl
    go (suc x) e = e

-- ---- what is left

pub refused_value : (s x : ℕ) → (s ≡ 0 → ⊥) → 0 ≡ answered s x
refused_value zero x n = absurd (n refl)
refused_value (suc s) x n = refl

pub answered_value : (s x y : ℕ) → s ≡ 0 → y ≡ x → y ≡ answered s x
answered_value s x y z e = e ∙ ap (λ (t : ℕ). answered t x) (sym z)

pub left_refused : (s : ℕ) (w : List ℕ) → (s ≡ 0 → ⊥) → w ≡ left s w
left_refused zero w n = absurd (n refl)
left_refused (suc s) w n = refl

pub replaced_refused : (s : ℕ) (x w : List ℕ) → (s ≡ 0 → ⊥) → w ≡ replaced s x w
replaced_refused zero x w n = absurd (n refl)
replaced_refused (suc s) x w n = refl

-- ---- a refusal's number

-- no refusal has the number 0
pub number_some : (r : Refusal) → number_of r ≡ 0 → ⊥
number_some BadModulus e = absurd (omega (arith, e))
number_some BadLength e = absurd (omega (arith, e))
number_some BadWord e = absurd (omega (arith, e))
number_some LeadNoUnit e = absurd (omega (arith, e))
number_some NoUnitFactor e = absurd (omega (arith, e))
number_some ShortResult e = absurd (omega (arith, e))
number_some ShortWork e = absurd (omega (arith, e))
number_some NoFrame e = absurd (omega (arith, e))
number_some NoCofactors e = absurd (omega (arith, e))
number_some EmptyTop e = absurd (omega (arith, e))
number_some PrimeDivides e = absurd (omega (arith, e))
number_some TooManyPoints e = absurd (omega (arith, e))
number_some FactorsFull e = absurd (omega (arith, e))
number_some BadNumber e = absurd (omega (arith, e))
number_some BadFrames e = absurd (omega (arith, e))
number_some BadMultiplier e = absurd (omega (arith, e))
number_some NoText e = absurd (omega (arith, e))
