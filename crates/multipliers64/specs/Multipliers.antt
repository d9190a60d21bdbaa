-- A multiplier that serves a whole window comes with its fraction of n.
--
--   HasFraction n c w       where n is below 2^63, w is the fraction of c of n. Shut: omega stops at numbers as large as 2^64;
--                           `open_fraction` opens it, `shut` makes it
--   IsMultiplier n x c w    c is x modulo n, with its fraction w
--   three_as                three products by multipliers modulo n
--   times_as, added_as, pair_as    one product, that with a number more, and two with a number more
use Rattle.std.specs.Prelude.{◌≡◌, ℕ, ◌+◌, ◌*◌, ◌%◌, ◌^◌, ◌<◌}
use Rattle.std.proofs.Common.{ap, ◌∙◌}
use Rattle.law_numbers.specs.Congruence.{Cong, c_refl, c_trans, c_eq, c_add, c_mul, c_mod}
use Rattle.law_words.specs.Fractions.{Fraction}

unfoldable pub HasFraction : ℕ → ℕ → ℕ → Type 0
HasFraction n c w = n < 2 ^ 63 → Fraction (2 ^ 64) n c w

pub record IsMultiplier (n x c w : ℕ) : Type 0 where
  pub residue : c ≡ x % n
  pub fraction : HasFraction n c w

pub open_fraction : {n c w : ℕ} → HasFraction n c w → n < 2 ^ 63 → Fraction (2 ^ 64) n c w
unfolding HasFraction
open_fraction h = h

pub shut : {n c w : ℕ} → (n < 2 ^ 63 → Fraction (2 ^ 64) n c w) → HasFraction n c w
unfolding HasFraction
shut h = h

pub three_as : (n l c m l' c' m' x y z : ℕ) → l' ≡ l % n → c' ≡ c % n → m' ≡ m % n
    → (l' * x + c' * y + m' * z) % n ≡ (l * x + c * y + m * z) % n
three_as n l c m l' c' m' x y z el ec em =
    (c_add (c_add (term l el x) (term c ec y)) (term m em z)).same
  where
    term : (a : ℕ) {b : ℕ} → b ≡ a % n → (k : ℕ) → Cong n (b * k) (a * k)
    term a e k = c_mul (c_trans (c_eq e) (c_mod a)) (c_refl {a = k})

-- what is reduced modulo k, which is n
module _ {k n : ℕ} (en : k ≡ n) where
  pub times_as : (c y : ℕ) {c' v : ℕ} → c' ≡ c % k → v ≡ (c' * y) % k → v ≡ (c * y) % n
  times_as c y ec e =
      e ∙ (c_mul (c_trans (c_eq ec) (c_mod c)) (c_refl {a = y})).same ∙ ap (λ (u : ℕ). (c * y) % u) en

  pub added_as : (x c y : ℕ) {c' v : ℕ} → c' ≡ c % k → v ≡ (x + c' * y) % k → v ≡ (x + c * y) % n
  added_as x c y ec e =
      e ∙ (c_add (c_refl {a = x}) (c_mul (c_trans (c_eq ec) (c_mod c)) (c_refl {a = y}))).same ∙ ap (λ (u : ℕ). (x + c * y) % u) en

  pub pair_as : (x c y e z : ℕ) {c' e' x' v : ℕ} → c' ≡ c % k → e' ≡ e % k → x' ≡ (x + c' * y) % k → v ≡ (x' + e' * z) % k
      → v ≡ (x + c * y + e * z) % n
  pair_as x c y e z {c'} ec ee ex ev =
      ev
      ∙ (c_add
      (c_trans (c_eq ex) (c_trans (c_mod (x + c' * y)) (c_add (c_refl {a = x}) (c_mul (c_trans (c_eq ec) (c_mod c)) (c_refl {a = y})))))
      (c_mul (c_trans (c_eq ee) (c_mod e)) (c_refl {a = z}))).same
      ∙ ap (λ (u : ℕ). (x + c * y + e * z) % u) en
