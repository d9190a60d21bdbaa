-- What Montgomery's reduction in words of 64 bits needs of n, and what it answers. Shut: omega stops at numbers as large as 2^64 where they
-- stand among many facts; the `open-…` and `shut-…` of each open and make it.
--
--   Formed n k       n is below 2^63 and k its inverse modulo 2^64
--   Squared n s      s is 2^128 modulo n, at most n
--   Held n a h       h is a, held: a times 2^64 modulo n, at most n
--   Reduced n t r    r is the residue whose multiple by 2^64 is t modulo n
--   Inverse n k      k is 0, or the inverse of n modulo 2^64
--   Carried s p r    r is 1 where s is below p, else 0
--   Factors n c y e z    two products of a held multiplier and a word, each below n²
--   three_words, two_words    what the sums with held multipliers are modulo n
use Rattle.std.specs.Prelude.{◌≡◌, ℕ, ◌+◌, ◌*◌, ◌%◌, ◌^◌, ◌<◌, ◌≤◌, ◌≢◌}
use Rattle.law_numbers.specs.Congruence.{Cong}
use Rattle.law_words64.specs.Montgomery.{IsForm, IsSquare, IsHeld, IsReduced, three_held, two_held}

unfoldable pub Form : ℕ → ℕ → Type 0
Form n k = IsForm (2 ^ 64) n k

pub record Formed (n k : ℕ) : Type 0 where
  pub form : Form n k

unfoldable pub Square : ℕ → ℕ → Type 0
Square n s = IsSquare (2 ^ 64) n s

pub record Squared (n s : ℕ) : Type 0 where
  pub square : Square n s

unfoldable pub Product : ℕ → ℕ → ℕ → Type 0
Product n a h = IsHeld (2 ^ 64) n a h

pub record Held (n a h : ℕ) : Type 0 where
  pub product : Product n a h

unfoldable pub Quotient : ℕ → ℕ → ℕ → Type 0
Quotient n t r = IsReduced (2 ^ 64) n t r

pub record Reduced (n t r : ℕ) : Type 0 where
  pub quotient : Quotient n t r

unfoldable pub Unit : ℕ → ℕ → Type 0
Unit n k = (n * k) % 2 ^ 64 ≡ 1

pub record Inverse (n k : ℕ) : Type 0 where
  pub unit : (k ≢ 0) → Unit n k

pub record Carried (s p r : ℕ) : Type 0 where
  pub some : s < p → r ≡ 1
  pub none : p ≤ s → r ≡ 0

pub record Factors (n c y e z : ℕ) : Type 0 where
  pub first : c ≤ n
  pub second : e ≤ n
  pub word : y < n
  pub next : z < n

pub open_form : {n k : ℕ} → Formed n k → IsForm (2 ^ 64) n k
unfolding Form
open_form f = f.form

pub shut_form : {n k : ℕ} → IsForm (2 ^ 64) n k → Formed n k
unfolding Form
shut_form f = record { form = f }

pub open_square : {n s : ℕ} → Squared n s → IsSquare (2 ^ 64) n s
unfolding Square
open_square f = f.square

pub shut_square : {n s : ℕ} → IsSquare (2 ^ 64) n s → Squared n s
unfolding Square
shut_square f = record { square = f }

pub open_held : {n a h : ℕ} → Held n a h → IsHeld (2 ^ 64) n a h
unfolding Product
open_held f = f.product

pub shut_held : {n a h : ℕ} → IsHeld (2 ^ 64) n a h → Held n a h
unfolding Product
shut_held f = record { product = f }

pub open_reduced : {n t r : ℕ} → Reduced n t r → IsReduced (2 ^ 64) n t r
unfolding Quotient
open_reduced f = f.quotient

pub shut_reduced : {n t r : ℕ} → IsReduced (2 ^ 64) n t r → Reduced n t r
unfolding Quotient
shut_reduced f = record { quotient = f }

pub open_inverse : {n k : ℕ} → Inverse n k → (k ≢ 0) → (n * k) % 2 ^ 64 ≡ 1
unfolding Unit
open_inverse f = f.unit

pub shut_inverse : {n k : ℕ} → Cong (2 ^ 64) (n * k) 1 → Inverse n k
unfolding Unit
shut_inverse f = record { unit = λ _. f.same }

pub three_words : {n k l c e l' c' e' r : ℕ} (x y z : ℕ) → Formed n k → Held n l l' → Held n c c' → Held n e e'
    → Reduced n (l' * x + c' * y + e' * z) r → r ≡ (l * x + c * y + e * z) % n
three_words x y z f hl hc he d = three_held (open_form f) x y z (open_held hc) (open_held he) (open_held hl) (open_reduced d)

pub two_words : {n k c e c' e' r : ℕ} (x y z : ℕ) → Formed n k → Held n c c' → Held n e e'
    → Reduced n (x * 2 ^ 64 + c' * y + e' * z) r → r ≡ (x + c * y + e * z) % n
two_words x y z f hc he d = two_held (open_form f) x y z (open_held hc) (open_held he) (open_reduced d)
