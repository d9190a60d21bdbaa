-- The test of the table of primes against n.
--
--   Checked n b i       the first i primes of the table are at most b, and none of them divides n
--   checked_first, checked_next     before the first; one more
--   over, all_checked, found        the test's value at each place where it returns
--   primes                          the rules
use mathlib.Core.Path.{◌≡◌, refl, sym, ap, subst, ◌∙◌}
use mathlib.Core.Bool.{Bool, true, false}
use Prim.Native.Nat.{ℕ, ◌+◌, ◌-◌, ◌%◌, ◌<◌, ◌≤◌, ◌∣◌}
use native.Mathlib.Decide.{dec_lt}
use native.Mathlib.Nat.{mod-eq-zero_of_dvd, dvd_of_mod-eq-zero}
use native.Mathlib.Omega.{arith}
use borrow.Author.Rules.{rules}
use lib.ListN.{get_or}
use Rattle.law_numbers.specs.PrimeTable.{NoSmallPrime, table, table_above, table_sorted, Passed, passed_none, none_passed}
use Rattle.bivariate_service.specs.BivariateService.{small_factor, prime_fails}

pub record Checked (n b i : ℕ) : Type 0 where
  pub most : i ≤ 17
  pub at : (j : ℕ) → j < i → get_or table j 0 ∣ n → ⊥

pub checked_first : (n b : ℕ) → Checked n b 0
checked_first n b = record { most = omega arith; at = λ j l. absurd (omega arith) }

pub checked_next : {n b i p : ℕ} → Checked n b i → i < 17 → p ≡ get_or table i 0 → (n % p ≡ 0 → ⊥) → Checked n b (i + 1)
checked_next {n} {b} {i} h l e r = record { most = omega arith; at = λ j q. go j q (dec_lt j i) }
  where
    go : (j : ℕ) → j < i + 1 → Dec (j < i) → get_or table j 0 ∣ n → ⊥
    go j q (yes p) d = h.at j p d
    go j q (no p) d =
        let s : j ≡ i = omega arith in
        r (ap (λ (x : ℕ). n % x) e ∙ mod-eq-zero_of_dvd (get_or table i 0) (subst (λ (x : ℕ). get_or table x 0 ∣ n) s d))

is_no : {n b : ℕ} → b ≤ 60 → Passed n b → false ≡ small_factor n b
is_no {n} {b} l h = go (small_factor n b) (prime_fails n b).failed
  where
    go : (x : Bool) → (x ≡ true → NoSmallPrime n b → ⊥) → false ≡ x
    go true f = absurd (f refl (passed_none l h))
    go false f = refl

pub over : {n b i p : ℕ} → Checked n b i → b ≤ 60 → i < 17 → p ≡ get_or table i 0 → b < p → false ≡ small_factor n b
over {n} {b} {i} h l q e r = is_no l (record { at = λ j p s d. go j p s d (dec_lt j i) })
  where
    go : (j : ℕ) → j < 17 → get_or table j 0 ≤ b → get_or table j 0 ∣ n → Dec (j < i) → ⊥
    go j p s d (yes k) = h.at j k d
    go j p s d (no k) = let t = table_sorted i (j - i) j (omega arith) p in omega arith

pub all_checked : {n b i : ℕ} → Checked n b i → b ≤ 60 → 17 ≤ i → false ≡ small_factor n b
all_checked {n} {b} {i} h l q = is_no l (record { at = λ j p s d. h.at j (omega arith) d })

pub found : {n b i p : ℕ} → Checked n b i → i < 17 → p ≡ get_or table i 0 → p ≤ b → n % p ≡ 0 → true ≡ small_factor n b
found {n} {b} {i} h l e q r = go (small_factor n b) (prime_fails n b).passed
  where
    go : (x : Bool) → (x ≡ false → NoSmallPrime n b) → true ≡ x
    go true f = refl
    go false f =
        absurd ((none_passed (f refl)).at i l (omega arith) (dvd_of_mod-eq-zero (get_or table i 0) (ap (λ (x : ℕ). n % x) (sym e) ∙ r)))

pub prime_positive : (p i : ℕ) → p ≡ get_or table i 0 → i < 17 → 0 < p
prime_positive p i e l = omega (arith, table_above i l)

pub ruleset primes = (rules, checked_first, checked_next, over, all_checked, found, prime_positive)
