-- What `division` returns once the refusals 1, 2 and 3 are passed.
--
--   late                             what the code tests after the refusals 1, 2 and 3
--   division_late, division_done     the answers after these
use mathlib.Core.Path.{◌≡◌, refl, sym, ap, ap₂, subst, ◌∙◌}
use mathlib.Core.Bool.{Bool, not}
use mathlib.Core.List.{List, [], ◌∷◌}
use Prim.Native.Nat.{ℕ, zero, suc, ◌-◌, ◌+◌, ◌*◌, ◌%◌, ◌≤◌, ◌<◌}
use native.Mathlib.Nat.{sub-zero}
use native.Mathlib.Numerals.{add-one}
use native.Mathlib.Omega.{arith}
use borrow.Rule.Slice.PartMut.{mid_of, put_mid, mid_len}
use lib.Dec.{eqb}
use lib.ListN.{length, get_or, take}
use Rattle.definitions.specs.Polynomials.{coef, deg, quotient_length, Division}
use Rattle.law_numbers.specs.Divisors.{GcdCofactor}
use Rattle.refusals.specs.Refusals.{Width, Tested, short, first_refusal, refusals_of_pair}
use Rattle.refusals.specs.Conditions.{Accepted, accepted_pair, status_zero, short_fails, equal_fails}
use Rattle.refusals.proofs.Cascade.{below_bound}
use Rattle.refusals.proofs.Statuses.{refused_early, passed_on}
use Rattle.law_polynomial_tests.specs.Buffers.{deg_is, placed_take, placed_drop}
use Rattle.law_polynomial_tests.specs.UnitTests.{is_unit, unit_gcd}
use Rattle.division_service.specs.DivisionService.{DivisionLeft, DivisionAnswer}
use Rattle.division_service.specs.DivisionStages.{QuotientAsked}

-- u is the divisor's common part with n
abbrev pub late : ℕ → ℕ → ℕ → ℕ → ℕ → List Tested
late u lq m lr e = (4, not (eqb u 1)) ∷ (6, short lq m) ∷ (6, short lr e) ∷ []

-- the length of the quotient, as the code has it
pub quotient_is : (f g : List ℕ) (x : ℕ) → x ≡ length f - 1 - (length g - 1) → x + 1 ≡ quotient_length (deg f) (deg g)
quotient_is f g x e = add-one x ∙ ap suc (e ∙ sym (ap₂ (λ (a b : ℕ). a - b) (deg_is f) (deg_is g)))

nothing_left : (t n : ℕ) (f g q r : List ℕ) → (t ≡ 0 → ⊥) → DivisionLeft t n f g q q r r
nothing_left zero n f g q r h = absurd (h refl)
nothing_left (suc t) n f g q r h = (refl, refl)

module _ (W : Width) (n s : ℕ) (f g q r : List ℕ) (is : s ≡ first_refusal (refusals_of_pair W n f g)) where
  tests : List Tested
  tests =
      (4, not (is_unit n (coef g (deg g)))) ∷ (6, short (length q) (quotient_length (deg f) (deg g))) ∷ (6, short (length r) (deg g)) ∷ []

  module _ (z : s ≡ 0) (u v x t : ℕ) (cf : GcdCofactor n (get_or g (length g - 1) 0) u v)
      (ex : x ≡ length f - 1 - (length g - 1)) (et : t ≡ first_refusal (late u (length q) (x + 1) (length r) (length g - 1))) where
    two : 2 ≤ n
    two = (accepted_pair W n f g (sym is ∙ z)).0.modulus

    -- the code tests what is asked
    late_is : first_refusal (late u (length q) (x + 1) (length r) (length g - 1)) ≡ first_refusal tests
    unfolding tests
    late_is =
        ap₂ (λ (b : Bool) (m : ℕ). first_refusal ((4, not b) ∷ (6, short (length q) m) ∷ (6, short (length r) (length g - 1)) ∷ []))
        (sym (ap (λ (e : ℕ). is_unit n (coef g e)) (deg_is g) ∙ unit_gcd two cf)) (quotient_is f g x ex)
        ∙ ap (λ (e : ℕ). first_refusal ((4, not (is_unit n (coef g (deg g)))) ∷ (6, short (length q) (quotient_length (deg f) (deg g)))
        ∷ (6, short (length r) e) ∷ [])) (sym (deg_is g))

    pub division_late : (t ≡ 0 → ⊥) → DivisionAnswer W n f g q q r r 0 t
    unfolding tests
    division_late h = record {
      status_is = passed_on (refusals_of_pair W n f g) tests s t is z (et ∙ late_is);
      value_is = refl;
      result = nothing_left t n f g q r h;
    }

    pub division_done : t ≡ 0 → (ys zs : List ℕ) → Division n f g ys zs
        → DivisionAnswer W n f g q (put_mid 0 (x + 1 - 0) q ys) r (put_mid 0 (length g - 1 - 0) r zs) 0 0
    unfolding tests
    division_done w ys zs d =
        let k : ℕ = x + 1 - 0 in
        let l : ℕ = length g - 1 - 0 in
        let m : k ≡ quotient_length (deg f) (deg g) = sub-zero (x + 1) ∙ quotient_is f g x ex in
        let e : l ≡ deg g = sub-zero (length g - 1) ∙ sym (deg_is g) in
        record {
          status_is = passed_on (refusals_of_pair W n f g) tests s 0 is z (sym w ∙ et ∙ late_is);
          value_is = refl;
          result = record {
            division = subst (λ (a : List ℕ). Division n f g a (take (deg g) (put_mid 0 l r zs)))
                (sym (placed_take k (quotient_length (deg f) (deg g)) q ys d.length_q))
                (subst (λ (b : List ℕ). Division n f g ys b) (sym (placed_take l (deg g) r zs d.length_r)) d);
            rest_q = placed_drop k (quotient_length (deg f) (deg g)) q ys d.length_q m;
            rest_r = placed_drop l (deg g) r zs d.length_r e;
          };
        }
