-- What the three tests of a claim tell, at each place where they return. D is the number claimed, u and v are the multipliers.
--
--   tells_none, tells_rest       D divides n: of 0, and of any other D
--   combined n f g u v k         word k of u f + v g; combined_sum is the same from words of the two products
--   CombinedBelow k              the words of u f + v g before place k are right, and k is 1 or more
--   combined_end                 all words are right
--   reduced_told                 there is one reduced resultant
--   tests, combinations          the rules
use mathlib.Core.Path.{◌≡◌, sym, ap₂, subst, ◌∙◌}
use mathlib.Core.Bool.{Bool, true, false}
use mathlib.Core.List.{List}
use Prim.Native.Nat.{ℕ, zero, suc, max, ◌+◌, ◌-◌, ◌%◌, ◌<◌, ◌≤◌, ◌∣◌}
use native.Mathlib.Nat.{zero-mod, mod-eq-zero_of_dvd, dvd_of_mod-eq-zero, pos_of_dvd_of_pos}
use native.Mathlib.Decide.{dec_lt}
use native.Mathlib.Omega.{arith}
use lib.Dec.{T, eqb}
use lib.ListN.{length}
use borrow.Author.Rules.{rules}
use borrow.Author.Tests.{eqb-true, eqb-false}
use Rattle.definitions.specs.Polynomials.{coef, convolve, constant}
use Rattle.definitions.specs.Checks.{convolve_beyond}
use Rattle.definitions.specs.Resultants.{Combination, Reduced}
use Rattle.law_numbers.specs.Congruence.{c_mod, c_add}
use Rattle.law_polynomials.specs.ReachedLaws.{reduced_unique}
use Rattle.claims.specs.Claims.{Tells}

true_false : {A : Type 0} → true ≡ false → A
true_false e = absurd (subst T e tt)

yes_told : {P : Type 0} → P → Tells true P
yes_told p = record { holds = λ _. p; fails = λ e. true_false e }

no_told : {P : Type 0} → (P → ⊥) → Tells false P
no_told h = record { holds = λ e. true_false (sym e); fails = λ _. h }

-- ---- the first

pub tells_none : (d n : ℕ) (t : Bool) → 1 ≤ n → d ≤ 0 → t ≡ false → Tells t (d ∣ n)
tells_none d n t l z e = rw e (no_told (λ h. let p = pos_of_dvd_of_pos h l in absurd (omega arith)))

pub tells_rest : (d n : ℕ) → Tells (eqb (n % d) 0) (d ∣ n)
tells_rest d n = record {
  holds = λ e. dvd_of_mod-eq-zero d (eqb-true (n % d) 0 e);
  fails = λ e h. eqb-false (n % d) 0 e (mod-eq-zero_of_dvd d h);
}

-- ---- the second

abbrev pub combined : ℕ → List ℕ → List ℕ → List ℕ → List ℕ → ℕ → ℕ
combined n f g u v k = (convolve (coef u) (coef f) k + convolve (coef v) (coef g) k) % n

pub combined_sum : (n : ℕ) (f g u v : List ℕ) (k a b r : ℕ) → a ≡ convolve (coef u) (coef f) k % n → b ≡ convolve (coef v) (coef g) k % n
    → r ≡ (a + b) % n → r ≡ combined n f g u v k
combined_sum n f g u v k a b r ea eb er =
    er ∙ ap₂ (λ (p q : ℕ). (p + q) % n) ea eb
    ∙ (c_add (c_mod {n = n} (convolve (coef u) (coef f) k)) (c_mod {n = n} (convolve (coef v) (coef g) k))).same

pub record CombinedBelow (k n : ℕ) (f g u v : List ℕ) (D : ℕ) : Type 0 where
  pub some : 1 ≤ k
  pub at : (j : ℕ) → j < k → combined n f g u v j ≡ constant D j % n

module _ (n : ℕ) (f g u v : List ℕ) (D x : ℕ) where
  above : (k : ℕ) → 1 ≤ k → constant D k % n ≡ 0
  above zero l = absurd (omega arith)
  above (suc k) l = zero-mod n

  module _ (k : ℕ) (c : CombinedBelow k n f g u v D) where
    -- x is the number of words of the longer product; above it every word is 0
    pub combined_end : x ≡ max (length u + length f - 1) (length v + length g - 1) → x ≤ k → Tells true (Combination n f g u v D)
    combined_end e l = yes_told (record { sum = λ j. go j (dec_lt j k) })
      where
        go : (j : ℕ) → Dec (j < k) → combined n f g u v j ≡ constant D j % n
        go j (yes h) = c.at j h
        go j (no h) =
            ap₂ (λ (x y : ℕ). (x + y) % n) (convolve_beyond u f j (omega arith)) (convolve_beyond v g j (omega arith))
            ∙ zero-mod n ∙ sym (above j (omega (arith, c.some)))

-- ---- the third

pub reduced_told : (n : ℕ) (f g : List ℕ) (E D : ℕ) → Reduced n f g E → 2 ≤ n → Tells (eqb E D) (Reduced n f g D)
reduced_told n f g E D r l = record {
  holds = λ e. subst (Reduced n f g) (eqb-true E D e) r;
  fails = λ e s. eqb-false E D e (reduced_unique {n = n} (omega arith) r s);
}

pub ruleset tests = (rules, tells_none, tells_rest, combined_sum, reduced_told)

pub ruleset combinations = (rules, combined_end)
