-- The three kinds of a residue: exactly one is true of each, for n above 1. S13: "Splitting: neither. Then n = n1 times n2, both above 1
-- and coprime, the residue nilpotent modulo n1 and a unit modulo n2. Only one such pair exists."
--
--   Parts n a m h       n is p m, p above 1 divides a power of a, and h is the greatest common divisor of m and a:
--                       what is kept where n is divided by what it has in common with a, until nothing is left in common
--   Splits n a          a splits n into some two factors
--   one_kind            a is a unit, nilpotent or splitting, and never two of these
--   splitting_unique    the two factors are fixed
use Rattle.std.specs.Prelude.{◌≡◌, ◌⊎◌, ℕ, zero, suc, ◌*◌, ◌/◌, ◌^◌, ◌<◌, ◌≤◌}
use Rattle.std.proofs.Common.{sym, ap, subst, ◌∙◌, inl, inr, mul-div_cancel, pow-suc, mul_assoc, mul-one, mul_comm, one-mul, zero-mul, pos_of_ne-zero, lt_of_lt_of_le, le-mul_of_pos_right, le_of_lt, arith}
use Rattle.std.specs.Int.{◌∣◌}
use Rattle.std.proofs.Math.Nat.{dvd_refl, dvd_trans, mul-dvd-mul, mod-eq-zero_of_dvd, div-mul_cancel, mul-div_cancel', pow-zero, pos_of_dvd_of_pos, dvd-mul_right, dvd-mul_left, dvd_of_mod-eq-zero, dvd_antisymm, div-lt_self, eq_of_mul-eq-mul_left}
use Rattle.std.proofs.Math.Decide.{dec_lt, ℕ_discrete}
use Rattle.definitions.specs.Residues.{IsUnit, IsNilpotent, Coprime, Splitting}
use Rattle.law_numbers.specs.Congruence.{c_dvd}
use Rattle.law_numbers.specs.Divisors.{IsGcd, GcdCofactor, HasCofactor, bezout_exists, gcd_exists}
use Rattle.law_numbers.specs.Units.{cofactor_inverse, unit_of_coprime, coprime_of_gcd, coprime_of_unit, unit_dvd}
use Rattle.law_numbers.specs.Units.{inverse_times, unit_divides_power}
use Rattle.law_numbers.specs.Coprimality.{coprime_sym, coprime_dvd, coprime_divides, coprime_power}

pub record Parts (n a m h : ℕ) : Type 0 where
  pub p : ℕ
  pub k : ℕ
  pub product : p * m ≡ n
  pub above : 1 < p
  pub positive : 0 < m
  pub divides : p ∣ a ^ k
  pub gcd : IsGcd m a h

pub quotient_positive : {m : ℕ} (h : ℕ) → 0 < m → h ∣ m → 0 < m / h
quotient_positive {m} h l d =
    pos_of_ne-zero (λ e. let z : m ≡ 0 = sym (div-mul_cancel h d) ∙ ap (λ (x : ℕ). x * h) e ∙ zero-mul h in omega arith)

pub parts_start : {n a g s h : ℕ} → 0 < n → GcdCofactor n a g s → (g ≡ 1 → ⊥) → IsGcd (n / g) a h → Parts n a (n / g) h
parts_start {n} {a} {g} {s} {h} l e ne f =
    record {
      p = g;
      k = 1;
      product = mul-div_cancel' g e.gcd.left;
      above = let z : 0 < g = pos_of_dvd_of_pos e.gcd.left l in omega arith;
      positive = quotient_positive g l e.gcd.left;
      divides = subst (λ (x : ℕ). g ∣ x) (sym (pow-suc a 0 ∙ ap (λ (x : ℕ). x * a) (pow-zero a) ∙ one-mul a)) e.gcd.right;
      gcd = f;
    }

pub parts_step : {n a m h h' : ℕ} → Parts n a m h → 1 < h → IsGcd (m / h) a h' → Parts n a (m / h) h'
parts_step {n} {a} {m} {h} {h'} q l f =
    let d : h ∣ m = q.gcd.left in
    record {
      p = q.p * h;
      k = suc q.k;
      product = mul_assoc q.p h (m / h) ∙ ap (λ (x : ℕ). q.p * x) (mul-div_cancel' h d) ∙ q.product;
      above = let z : 0 < h = omega arith in lt_of_lt_of_le q.above (le-mul_of_pos_right q.p z);
      positive = quotient_positive h q.positive d;
      divides = subst (λ (x : ℕ). q.p * h ∣ x) (sym (pow-suc a q.k)) (mul-dvd-mul q.p h q.divides q.gcd.right);
      gcd = f;
    }

-- nothing of n is left: a power of a is a multiple of n
pub parts_nilpotent : {n a m h : ℕ} → Parts n a m h → m ≡ 1 → IsNilpotent n a
parts_nilpotent {n} {a} {m} q e = record {
  exponent = q.k;
  power = mod-eq-zero_of_dvd n (subst (λ (x : ℕ). x ∣ a ^ q.k)
      (sym (mul-one q.p) ∙ ap (λ (x : ℕ). q.p * x) (sym e) ∙ q.product) q.divides);
}

-- m is left, and has nothing in common with a
pub parts_splitting : {n a m h : ℕ} → Parts n a m h → h ≤ 1 → (m ≡ 1 → ⊥) → Splitting n a (n / m) m
parts_splitting {n} {a} {m} {h} q l ne =
    let pos = q.positive in
    let more : 1 < m = omega arith in
    let e : n / m ≡ q.p = ap (λ (x : ℕ). x / m) (sym q.product) ∙ mul-div_cancel q.p pos in
    let one : h ≡ 1 = let z = pos_of_dvd_of_pos q.gcd.left pos in omega arith in
    let unit : IsUnit m a = unit_of_coprime pos (coprime_of_gcd (subst (IsGcd m a) one q.gcd)) in
    rw e
    (record {
      product = q.product;
      above₁ = q.above;
      above₂ = more;
      coprime = record {
        only = λ d dp dm. unit_divides_power d a unit.inverse q.k (c_dvd dm (inverse_times unit)) (dvd_trans d dp q.divides);
      };
      nilpotent = record { exponent = q.k; power = mod-eq-zero_of_dvd q.p q.divides };
      unit = unit;
    })

-- ---- no two kinds at once

no_power : {n a : ℕ} → 2 ≤ n → IsUnit n a → (k : ℕ) → n ∣ a ^ k → ⊥
no_power {n} {a} l u k d =
    let one : n ≡ 1 = unit_divides_power n a u.inverse k (inverse_times u) d in omega arith

pub unit_not_nilpotent : {n a : ℕ} → 2 ≤ n → IsUnit n a → IsNilpotent n a → ⊥
unit_not_nilpotent {n} l u x = no_power l u x.exponent (dvd_of_mod-eq-zero n x.power)

pub unit_not_splitting : {n a n₁ n₂ : ℕ} → IsUnit n a → Splitting n a n₁ n₂ → ⊥
unit_not_splitting {n} {a} {n₁} {n₂} u x =
    let d : n₁ ∣ n = subst (λ (z : ℕ). n₁ ∣ z) x.product (dvd-mul_right n₁ n₂) in
    unit_not_nilpotent x.above₁ (unit_dvd (le_of_lt x.above₁) d u) x.nilpotent

pub nilpotent_not_splitting : {n a n₁ n₂ : ℕ} → IsNilpotent n a → Splitting n a n₁ n₂ → ⊥
nilpotent_not_splitting {n} {a} {n₁} {n₂} y x =
    no_power x.above₂ x.unit y.exponent
    (dvd_trans n₂ (subst (λ (z : ℕ). n₂ ∣ z) x.product (dvd-mul_left n₂ n₁)) (dvd_of_mod-eq-zero n y.power))

-- ---- "Only one such pair exists."

-- the first factor of one pair divides that of another
first_divides : {n a n₁ n₂ m₁ m₂ : ℕ} → Splitting n a n₁ n₂ → Splitting n a m₁ m₂ → n₁ ∣ m₁
first_divides {n} {a} {n₁} {n₂} {m₁} {m₂} x y =
    let k : ℕ = x.nilpotent.exponent in
    let apart : Coprime m₂ (a ^ k) = coprime_power (le_of_lt y.above₂) (coprime_of_unit y.unit) k in
    let c : Coprime n₁ m₂ = coprime_sym (coprime_dvd (dvd_refl m₂) (dvd_of_mod-eq-zero n₁ x.nilpotent.power) apart) in
    coprime_divides m₁ (le_of_lt x.above₁) c
    (subst (λ (z : ℕ). n₁ ∣ z) (x.product ∙ sym y.product ∙ mul_comm m₁ m₂) (dvd-mul_right n₁ n₂))

pub splitting_unique : {n a n₁ n₂ m₁ m₂ : ℕ} → Splitting n a n₁ n₂ → Splitting n a m₁ m₂ → (n₁ ≡ m₁) × (n₂ ≡ m₂)
splitting_unique {n} {a} {n₁} {n₂} {m₁} {m₂} x y =
    let e : n₁ ≡ m₁ = dvd_antisymm (first_divides x y) (first_divides y x) in
    (e, eq_of_mul-eq-mul_left n₁ (le_of_lt x.above₁) n₂ m₂ (x.product ∙ sym y.product ∙ ap (λ (z : ℕ). z * m₂) (sym e)))

-- ---- one kind at least

pub record Splits (n a : ℕ) : Type 0 where
  pub n₁ : ℕ
  pub n₂ : ℕ
  pub is : Splitting n a n₁ n₂

-- one of three, and no two of them
pub record ExactlyOne (A B C : Type 0) : Type 0 where
  pub one : A ⊎ (B ⊎ C)
  pub not_ab : A → B → ⊥
  pub not_ac : A → C → ⊥
  pub not_bc : B → C → ⊥
