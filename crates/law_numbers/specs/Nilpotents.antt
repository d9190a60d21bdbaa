-- Nilpotent numbers modulo n: those that each prime of n divides; the K-th power is 0 already.
--
--   InRadical n a      each prime that divides n divides a
--   nilpotent_radical, radical_nilpotent     the two are one
--   nilpotent_power    (a ^ K n) % n is 0
use Rattle.std.specs.Prelude.{◌≡◌, ℕ, suc, ◌+◌, ◌-◌, ◌*◌, ◌%◌, ◌^◌, ◌≤◌}
use Rattle.std.proofs.Common.{sym, ap, subst, ◌∙◌, mul_comm, mul-le-mul, pow-suc, add-sub_of_le, le_of_eq, pow-add}
use Rattle.std.specs.Int.{◌∣◌}
use Rattle.std.proofs.Math.Nat.{dvd_trans, dvd-zero, dvd-add, dvd-mul_right, dvd-mul_left_of_dvd, dvd-mod_iff, mod-eq-zero_of_dvd, dvd_of_mod-eq-zero, mul-dvd-mul, pow-zero, one-dvd}
use Rattle.definitions.specs.Residues.{K, IsNilpotent}
use Rattle.law_numbers.specs.Logarithm.{K_largest}
use Rattle.law_numbers.specs.Primes.{Prime, climb, prime_root}

pub record InRadical (n a : ℕ) : Type 0 where
  pub at : (p : ℕ) → Prime p → p ∣ n → p ∣ a

-- ---- the radical is an ideal, and falls with n

pub radical_zero : (n : ℕ) → InRadical n 0
radical_zero n = record { at = λ p pr v. dvd-zero p }

pub radical_add : {n a b : ℕ} → InRadical n a → InRadical n b → InRadical n (a + b)
radical_add x y = record { at = λ p pr v. dvd-add p (x.at p pr v) (y.at p pr v) }

pub radical_mul : {n a : ℕ} (c : ℕ) → InRadical n a → InRadical n (c * a)
radical_mul c x = record { at = λ p pr v. dvd-mul_left_of_dvd p (x.at p pr v) c }

pub radical_mod : {n a : ℕ} → InRadical n a → InRadical n (a % n)
radical_mod {n} {a} x = record { at = λ p pr v. (dvd-mod_iff p {m = a} v).1 (x.at p pr v) }

pub radical_dvd : {m n a : ℕ} → m ∣ n → InRadical n a → InRadical m a
radical_dvd {m} d x = record { at = λ p pr v. x.at p pr (dvd_trans p v d) }

-- ---- nilpotent and in the radical are one

pub nilpotent_radical : {n a : ℕ} → IsNilpotent n a → InRadical n a
nilpotent_radical {n} {a} x = record { at = λ p pr v. prime_root pr a x.exponent (dvd_trans p v (dvd_of_mod-eq-zero n x.power)) }

-- m divides the k-th power of a, and 2 ^ k ≤ m
record Reaches (a m : ℕ) : Type 0 where
  pub k : ℕ
  pub few : 2 ^ k ≤ m
  pub divides : m ∣ a ^ k

reaches : {n a : ℕ} → 1 ≤ n → InRadical n a → Reaches a n
reaches {n} {a} pos h =
    climb n pos (Reaches a)
    (λ m p pr v x. record {
      k = suc x.k;
      few = subst (λ (y : ℕ). y ≤ p * m) (mul_comm 2 (2 ^ x.k) ∙ sym (pow-suc 2 x.k)) (mul-le-mul pr.above x.few);
      divides = subst (λ (y : ℕ). p * m ∣ y) (mul_comm a (a ^ x.k) ∙ sym (pow-suc a x.k))
          (mul-dvd-mul p m (h.at p pr (dvd_trans p (dvd-mul_right p m) v)) x.divides);
    })
    (record { k = 0; few = le_of_eq (pow-zero 2); divides = one-dvd (a ^ 0) })

power_more : (a : ℕ) {i j : ℕ} → i ≤ j → a ^ i ∣ a ^ j
power_more a {i} {j} l =
    subst (λ (x : ℕ). a ^ i ∣ x) (sym (pow-add a i (j - i)) ∙ ap (λ (x : ℕ). a ^ x) (add-sub_of_le l)) (dvd-mul_right (a ^ i) (a ^ (j - i)))

pub radical_power : {n a : ℕ} → 1 ≤ n → InRadical n a → n ∣ a ^ K n
radical_power {n} {a} pos h =
    let r = reaches pos h in
    dvd_trans n r.divides (power_more a (K_largest n r.k r.few))

pub radical_nilpotent : {n a : ℕ} → 1 ≤ n → InRadical n a → IsNilpotent n a
radical_nilpotent {n} {a} pos h = record { exponent = K n; power = mod-eq-zero_of_dvd n (radical_power pos h) }

-- the K-th power of a nilpotent residue is 0
pub nilpotent_power : {n a : ℕ} → 1 ≤ n → IsNilpotent n a → (a ^ K n) % n ≡ 0
nilpotent_power {n} {a} pos h = mod-eq-zero_of_dvd n (radical_power pos (nilpotent_radical h))
