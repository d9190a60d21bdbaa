-- What a round of `highest_of` keeps, at any width: the coefficients from t on are nilpotent.
--
--   Searching    the invariant, with its start, round and ends
--   leads        the rules
use mathlib.Core.Path.{◌≡◌, sym, subst}
use mathlib.Core.List.{List}
use mathlib.Core.Logic.{⊎_elim}
use Prim.Native.Nat.{ℕ, ◌-◌, ◌≤◌, ◌<◌}
use native.Mathlib.Nat.{eq-or-lt_of_le}
use native.Mathlib.Omega.{arith}
use borrow.Author.Rules.{rules}
use lib.ListN.{length, get_or-eq_default}
use Rattle.definitions.specs.Residues.{Inverse, IsNilpotent, Splitting}
use Rattle.definitions.specs.Polynomials.{coef}
use Rattle.law_numbers.specs.Nilpotents.{radical_zero, radical_nilpotent}
use Rattle.window_factor.specs.Factors.{LeadingUnit, SplitOf, AllNilpotents}

pub record Searching (n : ℕ) (f : List ℕ) (t : ℕ) : Type 0 where
  pub most : t ≤ length f
  pub rest : (k : ℕ) → t ≤ k → IsNilpotent n (coef f k)

nilpotent_zero : (n x : ℕ) → 1 ≤ n → x ≡ 0 → IsNilpotent n x
nilpotent_zero n x l e = subst (IsNilpotent n) (sym e) (radical_nilpotent l (radical_zero n))

pub searching_start : (n : ℕ) (f : List ℕ) → 2 ≤ n → Searching n f (length f)
searching_start n f l = record {
  most = omega arith;
  rest = λ k h. nilpotent_zero n (coef f k) (omega arith) (get_or-eq_default f 0 h);
}

module _ (n t : ℕ) (f : List ℕ) (x : Searching n f t) where
  pub searching_next : (u : ℕ) → 0 < t → u ≡ t - 1 → IsNilpotent n (coef f u) → Searching n f u
  searching_next u l e h = record {
    most = omega (arith, x.most);
    rest = λ k b. ⊎_elim (λ q. subst (λ (y : ℕ). IsNilpotent n (coef f y)) q h) (λ q. x.rest k (omega arith)) (eq-or-lt_of_le b);
  }

  pub searching_end : t ≤ 0 → AllNilpotents n f
  searching_end e = record { at = λ k. x.rest k (omega arith) }

  pub searching_found : (u i : ℕ) → 0 < t → u ≡ t - 1 → Inverse n (coef f u) i → LeadingUnit n u i f
  searching_found u i l e h = record { place = omega (arith, x.most); inverse = h; nilpotent = λ k q. x.rest k (omega arith) }

pub split_of : {n a p q : ℕ} → Splitting n a p q → SplitOf n p q
split_of s = record { product = s.product; above₁ = s.above₁; above₂ = s.above₂; coprime = s.coprime }

pub ruleset leads = (rules, searching_start, searching_next, searching_end, searching_found)
