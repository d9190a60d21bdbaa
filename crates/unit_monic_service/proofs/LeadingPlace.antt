-- What the leading place and the cofactor at it say of f: u is what the coefficient there has in common with n, v the cofactor.
use mathlib.Core.Path.{◌≡◌, sym, ap, subst, ◌∙◌}
use mathlib.Core.List.{List}
use Prim.Native.Nat.{ℕ, zero, suc, pred, ◌≤◌, ◌<◌}
use native.Mathlib.Omega.{arith}
use lib.Dec.{eqb}
use lib.ListN.{length, get_or}
use Rattle.definitions.specs.Polynomials.{coef}
use Rattle.law_numbers.specs.Divisors.{GcdCofactor}
use Rattle.law_numbers.specs.Units.{cofactor_inverse}
use Rattle.window_factor.specs.Factors.{LeadingUnit}
use Rattle.law_polynomial_tests.specs.Counts.{count_length}
use Rattle.law_polynomial_tests.specs.UnitTests.{is_unit, is_nilpotent, lead_count, lead_place, has_lead, unit_gcd, above_lead}

pub lead_inside : (n t : ℕ) (f : List ℕ) → 1 ≤ length f → t ≡ lead_place n f → t < length f
lead_inside n t f l e = go (lead_count n f) (count_length (is_nilpotent n) f) e
  where
    go : (c : ℕ) → c ≤ length f → t ≡ pred c → t < length f
    go zero b q = omega arith
    go (suc c) b q = omega arith

module _ (n t u v : ℕ) (f : List ℕ) (two : 2 ≤ n) (some : 1 ≤ length f) (et : t ≡ lead_place n f)
    (cf : GcdCofactor n (get_or f t 0) u v) where
  pub lead_of : has_lead n f ≡ eqb u 1
  lead_of = ap (λ (x : ℕ). is_unit n (coef f x)) (sym et) ∙ unit_gcd two cf

  pub leading : u ≡ 1 → LeadingUnit n t v f
  leading e = record {
    place = lead_inside n t f some et;
    inverse = cofactor_inverse two cf e;
    nilpotent = λ k l. above_lead n f (omega arith) k (subst (λ (x : ℕ). x < k) et l);
  }
