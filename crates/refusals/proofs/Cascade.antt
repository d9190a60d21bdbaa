-- The number of the first refusal that applies, from the tests that the code makes in its order. For words of any width.
--
--   hit, miss, told, told_not     the first test applies; it does not; a test as a callee answers it, and its negation
--   equal, apart                  a test of two lengths; that one is below the other is the kit's lt-ltb and le-ltb
--   pair_stops, pair_passes       two tests that a callee makes: one of them applies, or neither
--   some_told, lengths_told       what is known where a length, or neither of two, is refused
--   below_bound                   a width of which nothing but its bound is asked
--   cascade                       the rules; a call sets the depth, two for each test
use mathlib.Core.Path.{◌≡◌, sym, ap, ◌∙◌}
use mathlib.Core.Bool.{Bool, true, false, not, cond}
use mathlib.Core.List.{List, [], ◌∷◌}
use Prim.Native.Nat.{ℕ, zero, suc, ◌≤◌}
use native.Mathlib.Omega.{arith}
use lib.Dec.{T, ltb, eqb}
use lib.ListN.{length}
use borrow.Author.Rules.{rules}
use borrow.Author.Tests.{lt-ltb, le-ltb, eq-eqb, ne_eqb}
use Rattle.refusals.specs.Refusals.{Width, bad_length_of, first_of, first_refusal}
use Rattle.refusals.specs.Conditions.{ServedLength, length_fails, status_zero}

pub hit : (k y : ℕ) (b : Bool) → b ≡ true → T (ltb 0 k) → k ≡ first_of (cond b k 0) y
hit zero y b e t = absurd t
hit (suc k) y b e t = sym (ap (λ (x : Bool). first_of (cond x (suc k) 0) y) e)

pub miss : (k x y : ℕ) (b : Bool) → b ≡ false → x ≡ y → x ≡ first_of (cond b k 0) y
miss k x y b e h = h ∙ sym (ap (λ (z : Bool). first_of (cond z k 0) y) e)

pub told : {b v : Bool} (r : Bool) → r ≡ b → r ≡ v → b ≡ v
told r e h = sym e ∙ h

pub told_not : {b v : Bool} (r : Bool) → r ≡ b → not r ≡ v → not b ≡ v
told_not r e h = ap not (sym e) ∙ h

pub equal : (a b : ℕ) → a ≡ b → not (eqb a b) ≡ false
equal a b e = ap not (eq-eqb a b e)

pub apart : (a b : ℕ) → (a ≡ b → ⊥) → not (eqb a b) ≡ true
apart a b e = ap not (ne_eqb a b e)

pub pair_stops : (x y z s : ℕ) → s ≡ first_of x (first_of y 0) → (s ≡ 0 → ⊥) → s ≡ first_of x (first_of y z)
pair_stops zero zero z s e n = absurd (n e)
pair_stops zero (suc y) z s e n = e
pair_stops (suc x) y z s e n = e

pub pair_passes : (x y z s t : ℕ) → s ≡ first_of x (first_of y 0) → s ≡ 0 → t ≡ z → t ≡ first_of x (first_of y z)
pair_passes zero zero z s t e n h = h
pair_passes zero (suc y) z s t e n h = absurd (omega arith)
pair_passes (suc x) y z s t e n h = absurd (omega arith)

pub some_told : {l : ℕ} (r : Bool) (f : List ℕ) → r ≡ bad_length_of f → r ≡ false → l ≡ length f → 1 ≤ l
some_told r f e h el = omega (arith, ((length_fails f).passed (sym e ∙ h)).some)

pub lengths_told : (f g : List ℕ) (s : ℕ) → s ≡ first_refusal ((2, bad_length_of f) ∷ (2, bad_length_of g) ∷ []) → s ≡ 0
    → ServedLength f × ServedLength g
lengths_told f g s e z =
    let p = (status_zero ((2, bad_length_of f) ∷ (2, bad_length_of g) ∷ []) (ServedLength f ∷ ServedLength g ∷ [])
    ((omega arith, length_fails f), ((omega arith, length_fails g), tt))).0 (sym e ∙ z) in
    (p.0, p.1.0)

-- moduli below B: where a goal shows no width, a rule is stated over this one, and `search` takes B from the status
abbrev pub below_bound : ℕ → Width
below_bound B = record { bound = B; working = 0 }

pub ruleset cascade = (rules, hit, miss, told, told_not, lt-ltb, le-ltb, equal, apart)
