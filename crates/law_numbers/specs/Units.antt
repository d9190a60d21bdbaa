-- Units modulo n: the inverse is one; a is a unit exactly when it has no divisor in common with n.
--
--   cofactor_inverse, unit_of    a cofactor of 1 is the inverse; so is the residue of any s with s a = 1
--   inverse_times, inverse_unique    the inverse times a is 1; two inverses are one
--   unit_dvd                     a unit modulo n is one modulo each divisor of n
--   unit_of_coprime, coprime_of_unit, coprime_of_gcd, gcd_of_coprime    units, coprime numbers, and a gcd that is 1
--   unit_divides_power           what divides a power of a, where a is a unit, is 1
use Rattle.std.specs.Prelude.{◌≡◌, ℕ, zero, suc, ◌*◌, ◌%◌, ◌^◌, ◌≤◌}
use Rattle.std.proofs.Common.{sym, ap, subst, ◌∙◌, ⊎_elim, mod-eq_of_lt, mod-lt, mul_comm, mul-one, one-mul, mul-zero, eq-or-lt_of_le, pow-suc, arith}
use Rattle.std.specs.Int.{◌∣◌}
use Rattle.std.proofs.Math.Nat.{mul-mod_right, pow-zero, dvd-one, dvd_trans, dvd-mul_left}
use Rattle.definitions.specs.Residues.{Inverse, IsUnit, Coprime}
use Rattle.law_numbers.specs.Congruence.{Cong, c_refl, c_sym, c_trans, c_eq, c_mul, c_mod, c_dvd, c_zero, dvd_c, ring}
use Rattle.law_numbers.specs.Divisors.{IsGcd, GcdCofactor, bezout_exists}

-- a cofactor of 1 is the inverse
pub cofactor_inverse : {n a g s : ℕ} → 2 ≤ n → GcdCofactor n a g s → g ≡ 1 → Inverse n a s
cofactor_inverse {n} {a} {g} {s} l c e =
    let one : (s * a) % n ≡ 1 % n = c.bezout ∙ ap (λ (x : ℕ). x % n) e in
    record {
      below = ⊎_elim (λ z. absurd (none one z)) (λ b. b) (eq-or-lt_of_le c.at_most);
      one = ap (λ (x : ℕ). x % n) (mul_comm a s) ∙ one;
    }
  where
    none : (s * a) % n ≡ 1 % n → s ≡ n → ⊥
    none o z =
        let w : 0 ≡ 1 % n = sym (mul-mod_right n a) ∙ ap (λ (x : ℕ). (x * a) % n) (sym z) ∙ o in
        let u : 1 % n ≡ 1 = mod-eq_of_lt l in
        omega arith

-- the inverse times a is 1
pub inverse_times : {n a : ℕ} (u : IsUnit n a) → Cong n (u.inverse * a) 1
inverse_times {n} {a} u = c_trans (c_eq (mul_comm u.inverse a)) (record { same = u.is.one })

-- two inverses are one
pub inverse_unique : {n a i j : ℕ} → Inverse n a i → Inverse n a j → i ≡ j
inverse_unique {n} {a} {i} {j} p q =
    sym (mod-eq_of_lt p.below)
    ∙ (c_trans (c_eq (sym (mul-one i)))
    (c_trans (c_mul c_refl (c_sym (record { same = q.one })))
    (c_trans (c_eq {b = a * i * j} (simp ring))
    (c_trans (c_mul (record { same = p.one }) c_refl) (c_eq (one-mul j)))))).same
    ∙ mod-eq_of_lt q.below

-- s a is 1 modulo n: the residue of s is the inverse
pub unit_of : {n a : ℕ} (s : ℕ) → 1 ≤ n → Cong n (s * a) 1 → IsUnit n a
unit_of {n} {a} s l c = record {
  inverse = s % n;
  is = record { below = mod-lt s l; one = (c_trans (c_mul c_refl (c_mod s)) (c_trans (c_eq (mul_comm a s)) c)).same };
}

-- what is a unit modulo n is one modulo each divisor of n
pub unit_dvd : {m n a : ℕ} → 1 ≤ m → m ∣ n → IsUnit n a → IsUnit m a
unit_dvd l d u = unit_of u.inverse l (c_dvd d (inverse_times u))

-- to be a unit modulo n is to have no divisor in common with n
pub unit_of_coprime : {n a : ℕ} → 1 ≤ n → Coprime n a → IsUnit n a
unit_of_coprime {n} {a} l c =
    let h = bezout_exists n a l in
    unit_of h.s l (record { same = h.is.bezout ∙ ap (λ (x : ℕ). x % n) (c.only h.g h.is.gcd.left h.is.gcd.right) })

pub coprime_of_gcd : {n a : ℕ} → IsGcd n a 1 → Coprime n a
coprime_of_gcd g = record { only = λ k p q. dvd-one.0 (g.most k p q) }

pub gcd_of_coprime : {n a g : ℕ} → Coprime n a → IsGcd n a g → g ≡ 1
gcd_of_coprime {n} {a} {g} c d = c.only g d.left d.right

pub coprime_of_unit : {n a : ℕ} → IsUnit n a → Coprime n a
coprime_of_unit {n} {a} u = record {
  only = λ k p q. dvd-one.0 (dvd_c
      (c_trans (c_sym (c_dvd p (inverse_times u))) (c_zero (dvd_trans k q (dvd-mul_left a u.inverse)))));
}

-- a number that divides a power of a, where s a is 1 modulo it, is 1
pub unit_divides_power : (d a s k : ℕ) → Cong d (s * a) 1 → d ∣ a ^ k → d ≡ 1
unit_divides_power d a s zero c p = dvd-one.0 (subst (λ (x : ℕ). d ∣ x) (pow-zero a) p)
unit_divides_power d a s (suc k) c p =
    unit_divides_power d a s k c
    (dvd_c
    (c_trans (c_eq (sym (mul-one (a ^ k))))
    (c_trans (c_mul (c_refl {a = a ^ k}) (c_sym c))
    (c_trans (c_eq {b = s * (a ^ k * a)} (simp ring))
    (c_trans (c_mul (c_refl {a = s}) (c_zero (subst (λ (x : ℕ). d ∣ x) (pow-suc a k) p))) (c_eq (mul-zero s)))))))
