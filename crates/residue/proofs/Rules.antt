-- What the functions of this crate ask and answer, for words of any width: each rule takes the facts as the code hands them over, so
-- that `search` finds them.
--
--   power_nilpotent, parts_from     the kind of a residue
--   divisor_positive, quotient_positive, both_positive, divisor_most, residue_most    of a gcd with a cofactor, and of a remainder
--   with_cofactors, least_cofactors    the least cofactors of two residues
--   cofactor_fits, idempotent-…, second_below, join-…    joining two residues of coprime moduli
--   product_fits, sum_fits          a multiple in 64 bits
--   K_none, leading_bits            K n by the place of the first bit
--   kinds, joins, divisors, cofactors    the rules
use mathlib.Core.Path.{◌≡◌, refl, sym, ap, ◌∙◌}
use Prim.Native.Nat.{ℕ, zero, suc, ◌+◌, ◌-◌, ◌*◌, ◌/◌, ◌%◌, ◌^◌, ◌<◌, ◌≤◌}
use native.Mathlib.Nat.{mod-eq_of_lt, mod-lt, le_trans, mul_comm, mul-pos, mul-le-mul_right, le-mul_of_pos_right, le_of_dvd, div-lt_self}
use native.Mathlib.Nat.{pos_of_dvd_of_pos, pow-zero, pow-suc}
use native.Mathlib.Omega.{arith}
use mir.Syntax.{Width, w32, w64}
use mir.Val.{Fits, bits}
use borrow.Author.Rules.{rules}
use lib.Count.{count_leading_zeros, leading_length}
use Rattle.arithmetic.proofs.Widths.{below, sum_below}
use Rattle.definitions.specs.Residues.{halvings, K, IsNilpotent, GcdWithCofactors, LeastCofactors}
use Rattle.law_numbers.specs.Divisors.{IsGcd, GcdCofactor}
use Rattle.law_numbers.specs.Units.{gcd_of_coprime, cofactor_inverse}
use Rattle.law_numbers.specs.Chinese.{Idempotent, Joined, idempotent_of, joined_of}
use Rattle.law_numbers.specs.Kinds as numbers
use Rattle.law_numbers.specs.Kinds.{Parts, parts_start, parts_step, parts_nilpotent, parts_splitting}
use Rattle.law_numbers.specs.LeastCofactors.{positive, least_from}
use Rattle.law_numbers.specs.Logarithm.{K_unique}
use Rattle.residue.specs.Moduli.{CoprimeModuli}

-- ---- the kind of a residue

pub power_nilpotent : {n a p : ℕ} (k : ℕ) → p ≡ (a ^ k) % n → p ≡ 0 → IsNilpotent n a
power_nilpotent k e z = record { exponent = k; power = sym e ∙ z }

pub above_one : {n : ℕ} → 2 ≤ n → 1 ≤ n
above_one l = omega arith

pub at_least_two : {h : ℕ} (k : ℕ) → k < h → 1 ≤ k → 1 < h
at_least_two k l b = omega arith

pub parts_from : {n a g s h : ℕ} → GcdCofactor n a g s → IsGcd (n / g) a h → (g ≡ 1 → ⊥) → 2 ≤ n → Parts n a (n / g) h
parts_from e f ne l = parts_start (omega arith) e ne f

-- ---- a gcd with a cofactor

module _ {n a g s : ℕ} (e : GcdCofactor n a g s) (l : 1 ≤ n) where
  pub divisor_positive : 1 ≤ g
  divisor_positive = pos_of_dvd_of_pos e.gcd.left l

  pub quotient_positive : 1 ≤ n / g
  quotient_positive = numbers.quotient_positive g l e.gcd.left

  pub divisor_most : g ≤ n
  divisor_most = le_of_dvd l e.gcd.left

-- the divisor of a divisor
pub both_positive : {n b h t a g s : ℕ} → GcdCofactor h a g s → GcdCofactor n b h t → 1 ≤ n → 1 ≤ n / g
both_positive f e l = (positive l e f).both

pub residue_most : {n r : ℕ} (x : ℕ) → r ≡ x % n → 1 ≤ n → r ≤ n
residue_most x e l = omega (arith, mod-lt x l)

pub product_fits : {a b : ℕ} → Fits w32 a → Fits w32 b → Fits w64 (a * b)
product_fits p q = record { fits = below 32 p.fits q.fits }

pub sum_fits : {a b h : ℕ} (g : ℕ) → Fits w32 a → Fits w32 b → Fits w32 h → Fits w64 (a * b + (h - g))
sum_fits {a} {b} {h} g p q r = record { fits = omega (arith, sum_below (h - g) a b (omega (arith, r.fits)) p.fits q.fits) }

-- the least cofactors: h is gcd(b, n), which is t₁ b modulo n, and g is gcd(a, h)
module _ {n a b h g t₁ s₁ s c m u v t : ℕ} (e : GcdCofactor n b h t₁) (f : GcdCofactor h a g s₁) (et : t ≡ v % (n / h))
    (ev : v ≡ (t₁ * u) % n) (eu : u ≡ (1 + (n - m)) % n) (em : m ≡ c % n) (ec : c ≡ (s * a + (h - g)) / h) (es : s ≡ s₁ % (h / g))
    (l : 1 ≤ n) where
  pub with_cofactors : GcdWithCofactors n a b g s t
  with_cofactors = (least_from l e f es ec em eu ev et).0

  pub least_cofactors : LeastCofactors n a b g s t
  least_cofactors = (least_from l e f es ec em eu ev et).1

-- ---- joining residues of coprime moduli

module _ {B n₁ n₂ : ℕ} (m : CoprimeModuli B n₁ n₂) where
  pub product_positive : 1 ≤ n₁ * n₂
  product_positive = mul-pos m.some₁ m.some₂

  -- a residue modulo n₂ does not pass the product
  pub second_below : {y : ℕ} → y < n₂ → y ≤ n₁ * n₂
  second_below {y} b = omega (arith, le-mul_of_pos_right n₂ m.some₁, mul_comm n₁ n₂)

  pub second_most : {n y : ℕ} → n ≡ n₁ * n₂ → y < n₂ → y ≤ n
  second_most e b = omega (arith, second_below b)

  module _ {g s : ℕ} (b : GcdCofactor n₁ n₂ g s) where
    pub cofactor_fits : {W : Width} → B ≡ 2 ^ bits W → Fits W (s * n₂)
    cofactor_fits e = record { fits = omega (arith, mul-le-mul_right n₂ b.at_most, m.word) }

    module _ {r : ℕ} (er : r ≡ (s * n₂) % (n₁ * n₂)) where
      is : Idempotent n₁ n₂ r
      is = rw er
          (idempotent_of s m.some₁ m.some₂
          (record { same = b.bezout ∙ ap (λ (x : ℕ). x % n₁) (gcd_of_coprime m.coprime b.gcd) }))

      pub idempotent_below : r < n₁ * n₂
      idempotent_below = is.below

      pub idempotent_one : r % n₁ ≡ 1 % n₁
      idempotent_one = is.one

      pub idempotent_none : r % n₂ ≡ 0
      idempotent_none = is.none

  module _ {n e x y d r : ℕ} (er : r ≡ (y + e * d) % n) (ed : d ≡ (x + (n - y)) % n) (en : n ≡ n₁ * n₂) (i : Idempotent n₁ n₂ e)
      (bx : x < n₁) (by : y < n₂) where
    joined : Joined n₁ n₂ x y r
    joined = rw (er, ed, en) (joined_of {e = e} x y m.some₁ m.some₂ (second_below by) i)

    pub join_below : r < n₁ * n₂
    join_below = joined.below

    pub join_first : r % n₁ ≡ x
    join_first = joined.first ∙ mod-eq_of_lt bx

    pub join_second : r % n₂ ≡ y
    join_second = joined.second ∙ mod-eq_of_lt by

-- ---- the place of the first bit

pub K_none : {n : ℕ} → n ≡ 0 → 0 ≡ K n
unfolding K halvings
K_none e = rw e refl

module _ (B n : ℕ) (some : 1 ≤ n) (word : n < 2 ^ B) where
  -- n has K n + 1 of B bits
  pub leading_bits : count_leading_zeros B n + suc (K n) ≡ B
  leading_bits = let s = leading_length B n word in go s.0 s.1 s.2 s.3
    where
      go : (j : ℕ) → count_leading_zeros B n + j ≡ B → n < 2 ^ j → 2 ^ j ≤ 2 * n + 1 → count_leading_zeros B n + suc (K n) ≡ B
      go zero e lt le = absurd (omega (arith, pow-zero 2))
      go (suc j) e lt le =
          let k : K n ≡ j = K_unique n j (record { low = omega (arith, pow-suc 2 j, le); high = lt }) in
          omega (arith, e, k)

pub ruleset kinds = (
  rules,
  above_one,
  at_least_two,
  cofactor_inverse,
  power_nilpotent,
  divisor_positive,
  parts_from,
  parts_step,
  parts_nilpotent,
  parts_splitting,
  div-lt_self,
)

pub ruleset joins = (
  rules,
  product_positive,
  second_below,
  second_most,
  cofactor_fits,
  idempotent_below,
  idempotent_one,
  idempotent_none,
  join_below,
  join_first,
  join_second,
)

pub ruleset divisors = (rules, divisor_positive, quotient_positive, both_positive, divisor_most, residue_most)

pub ruleset cofactors = (divisors, product_fits, sum_fits, with_cofactors, least_cofactors)
