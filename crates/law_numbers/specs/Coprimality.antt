-- Coprime numbers: Gauss' lemma, and what follows of divisors, products and powers.
--
--   coprime_divides     a divisor of a w, coprime to a, divides w
--   coprime_product     two coprime divisors of z: their product divides z
--   coprime_times       coprime to a and to b, hence to a b
--   coprime_power       coprime to a, hence to each power of a
--   coprime_of_bezout   s a + t b is 1 modulo a b
use Rattle.std.specs.Prelude.{◌≡◌, ℕ, zero, suc, ◌+◌, ◌*◌, ◌/◌, ◌^◌, ◌≤◌}
use Rattle.std.proofs.Common.{sym, subst, ◌∙◌, mul_comm, mul-zero, one-mul, pow-suc}
use Rattle.std.specs.Int.{◌∣◌}
use Rattle.std.proofs.Math.Nat.{dvd_trans, mul-dvd-mul_right, mul-div_cancel', pow-zero, dvd-one, dvd-add, dvd-mul_left, dvd-mul_right, pos_of_dvd_of_pos}
use Rattle.definitions.specs.Residues.{Coprime}
use Rattle.law_numbers.specs.Congruence.{Cong, c_refl, c_sym, c_trans, c_eq, c_mul, c_dvd, c_zero, dvd_c, ring}
use Rattle.law_numbers.specs.Units.{unit_of_coprime}

pub coprime_sym : {a b : ℕ} → Coprime a b → Coprime b a
coprime_sym c = record { only = λ k p q. c.only k q p }

-- a common divisor of a and b divides s a + t b, and so 1
pub coprime_of_bezout : {a b : ℕ} (s t : ℕ) → Cong (a * b) (s * a + t * b) 1 → Coprime a b
coprime_of_bezout {a} {b} s t c = record {
  only = λ k p q. dvd-one.0 (dvd_c
      (c_trans (c_sym (c_dvd (dvd_trans k p (dvd-mul_right a b)) c))
      (c_zero (dvd-add k (dvd_trans k p (dvd-mul_left a s)) (dvd_trans k q (dvd-mul_left b t))))));
}

pub coprime_one : (a : ℕ) → Coprime 1 a
coprime_one a = record { only = λ k p q. dvd-one.0 p }

-- divisors of coprime numbers are coprime
pub coprime_dvd : {a b c d : ℕ} → a ∣ c → b ∣ d → Coprime c d → Coprime a b
coprime_dvd p q c = record { only = λ k x y. c.only k (dvd_trans k x p) (dvd_trans k y q) }

-- Gauss: n divides a w and is coprime to a
pub coprime_divides : {n a : ℕ} (w : ℕ) → 1 ≤ n → Coprime n a → n ∣ a * w → n ∣ w
coprime_divides {n} {a} w l c d =
    let u = unit_of_coprime l c in
    let i : ℕ = u.inverse in
    dvd_c (c_trans (c_eq (sym (one-mul w)))
    (c_trans (c_mul (c_sym (record { same = u.is.one })) (c_refl {a = w}))
    (c_trans (c_eq {b = i * (a * w)} (simp ring)) (c_trans (c_mul (c_refl {a = i}) (c_zero d)) (c_eq (mul-zero i))))))

pub coprime_product : {a b z : ℕ} → 1 ≤ a → Coprime a b → a ∣ z → b ∣ z → a * b ∣ z
coprime_product {a} {b} {z} l c p q =
    let w : ℕ = z / b in
    let e : b * w ≡ z = mul-div_cancel' b q in
    subst (λ (x : ℕ). a * b ∣ x) (mul_comm w b ∙ e)
    (mul-dvd-mul_right a (coprime_divides w l c (subst (λ (x : ℕ). a ∣ x) (sym e) p)) b)

pub coprime_times : {n a b : ℕ} → 1 ≤ n → Coprime n a → Coprime n b → Coprime n (a * b)
coprime_times {n} {a} {b} l p q = record {
  only = λ k x y. q.only k x (coprime_divides b (pos_of_dvd_of_pos x l) (record { only = λ j u v. p.only j (dvd_trans j u x) v }) y);
}

pub coprime_power : {n a : ℕ} → 1 ≤ n → Coprime n a → (k : ℕ) → Coprime n (a ^ k)
coprime_power {n} {a} l c zero = subst (Coprime n) (sym (pow-zero a)) (coprime_sym (coprime_one n))
coprime_power {n} {a} l c (suc k) = subst (Coprime n) (sym (pow-suc a k)) (coprime_times l (coprime_power l c k) c)
