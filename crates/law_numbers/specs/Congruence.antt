-- Congruence modulo n, as a record so that its numbers are inferred; and its laws.
--
--   Cong n a b    a is b modulo n
--   ring          the ruleset by which `simp` compares sums of products
use Rattle.std.specs.Prelude.{◌≡◌, refl, ℕ, zero, suc, ◌+◌, ◌-◌, ◌*◌, ◌/◌, ◌%◌, ◌^◌, ◌<◌, ◌≤◌}
use Rattle.std.proofs.Common.{sym, ap, subst, ◌∙◌, mod-lt, add-zero, zero-add, add-sub_of_le, add_assoc, add_comm, mul_comm, mul_assoc, mul_left_comm, add-mul, mul-add, pow-suc, arith}
use Rattle.std.specs.Int.{◌∣◌}
use Rattle.std.proofs.Math.Nat.{mod-mod, add-mod, mod_self, zero-mod, mul-add-mod_self_left, div-add-mod, add_left_comm, pow-zero, mod-mod_of_dvd, mod-eq-zero_of_dvd, dvd_of_mod-eq-zero, mul-div_cancel'}

-- the laws of + and *, by which `simp` brings both sides of an equation to one form
pub ruleset ring = (mul-add, add-mul, mul_assoc, mul_comm, mul_left_comm, add_assoc, add_comm, add_left_comm)

-- a is b modulo n
pub record Cong (n a b : ℕ) : Type 0 where
  pub same : a % n ≡ b % n

pub c_refl : {n a : ℕ} → Cong n a a
c_refl = record { same = refl }

pub c_sym : {n a b : ℕ} → Cong n a b → Cong n b a
c_sym p = record { same = sym p.same }

pub c_trans : {n a b c : ℕ} → Cong n a b → Cong n b c → Cong n a c
c_trans p q = record { same = p.same ∙ q.same }

pub c_eq : {n a b : ℕ} → a ≡ b → Cong n a b
c_eq {n} e = record { same = ap (λ (x : ℕ). x % n) e }

pub c_mod : {n : ℕ} (a : ℕ) → Cong n (a % n) a
c_mod {n} a = record { same = mod-mod a n }

pub c_add : {n a b c d : ℕ} → Cong n a b → Cong n c d → Cong n (a + c) (b + d)
c_add {n} {a} {b} {c} {d} p q = record { same = add-mod a c n ∙ rw (p.same, q.same, ← add-mod b d n) }

mul_mod_l : (n a b : ℕ) → (a * b) % n ≡ (a % n * b) % n
mul_mod_l n a b =
    ap (λ (x : ℕ). (x * b) % n) (sym (div-add-mod a n))
    ∙ ap (λ (x : ℕ). x % n) (add-mul (n * (a / n)) (a % n) b ∙ ap (λ (x : ℕ). x + a % n * b) (mul_assoc n (a / n) b))
    ∙ mul-add-mod_self_left n (a / n * b) (a % n * b)

mul_l : {n a b : ℕ} (c : ℕ) → Cong n a b → Cong n (a * c) (b * c)
mul_l {n} {a} {b} c p = record { same = mul_mod_l n a c ∙ ap (λ (x : ℕ). (x * c) % n) p.same ∙ sym (mul_mod_l n b c) }

pub c_mul : {n a b c d : ℕ} → Cong n a b → Cong n c d → Cong n (a * c) (b * d)
c_mul {n} {a} {b} {c} {d} p q = c_trans (mul_l c p) (c_trans (c_eq (mul_comm b c)) (c_trans (mul_l b q) (c_eq (mul_comm d b))))

pub c_neg : (n c : ℕ) → 0 < n → Cong n (c + (n - c % n)) 0
c_neg n c h =
    record {
      same = ap (λ (x : ℕ). x % n) (split (n * (c / n)) (c % n) (div-add-mod c n) (mod-lt c h))
          ∙ mul-add-mod_self_left n (c / n) n
          ∙ mod_self n
          ∙ sym (zero-mod n);
    }
  where
    split : (p r : ℕ) → p + r ≡ c → r < n → c + (n - r) ≡ p + n
    split p r e l = omega arith

pub c_cancel : {n a b : ℕ} (c : ℕ) → 0 < n → Cong n (a + c) (b + c) → Cong n a b
c_cancel {n} {a} {b} c h p = c_trans (c_sym (back a)) (c_trans (c_add p c_refl) (back b))
  where
    back : (x : ℕ) → Cong n (x + c + (n - c % n)) x
    back x =
        c_trans (c_eq (add_assoc x c (n - c % n)))
        (c_trans (c_add c_refl (c_neg n c h)) (c_eq (add-zero x)))

-- a - c, given as a + (n - c % n)
pub c_sub : {n a : ℕ} (c : ℕ) → 0 < n → Cong n ((a + (n - c % n)) % n + c) a
c_sub {n} {a} c h =
    c_trans (c_add (c_mod (a + (n - c % n))) c_refl)
    (c_trans (c_eq (simp ring)) (c_trans (c_add c_refl (c_neg n c h)) (c_eq (add-zero a))))

-- powers
pub c_pow : {n x y : ℕ} → Cong n x y → (k : ℕ) → Cong n (x ^ k) (y ^ k)
c_pow {n} {x} {y} c zero = c_eq (pow-zero x ∙ sym (pow-zero y))
c_pow {n} {x} {y} c (suc k) = c_trans (c_eq (pow-suc x k)) (c_trans (c_mul (c_pow c k) c) (c_eq (sym (pow-suc y k))))

-- ---- under a change of the modulus

-- modulo n, hence modulo its divisor m
pub c_dvd : {m n a b : ℕ} → m ∣ n → Cong n a b → Cong m a b
c_dvd {m} {n} {a} {b} d c = record { same = sym (mod-mod_of_dvd m a d) ∙ ap (λ (x : ℕ). x % m) c.same ∙ mod-mod_of_dvd m b d }

-- to be 0 modulo m is to be divided by m
pub c_zero : {m a : ℕ} → m ∣ a → Cong m a 0
c_zero {m} {a} d = record { same = mod-eq-zero_of_dvd m d ∙ sym (zero-mod m) }

pub dvd_c : {m a : ℕ} → Cong m a 0 → m ∣ a
dvd_c {m} {a} c = dvd_of_mod-eq-zero m (c.same ∙ zero-mod m)

-- to be congruent is to differ by a multiple of n
pub dvd_difference : {n x y : ℕ} → 0 < n → x ≤ y → Cong n x y → n ∣ y - x
dvd_difference {n} {x} {y} pos l c =
    dvd_c (c_cancel x pos (c_trans (c_eq {b = y} (omega arith)) (c_trans (c_sym c) (c_eq (sym (zero-add x))))))

pub c_difference : {n x y : ℕ} → x ≤ y → n ∣ y - x → Cong n x y
c_difference {n} {x} {y} l d =
    c_trans (c_eq (sym (add-zero x))) (c_trans (c_add (c_refl {a = x}) (c_sym (c_zero d))) (c_eq (add-sub_of_le l)))

times : (p m a : ℕ) → Cong (p * m) (a * m) (a % p * m)
times p m a =
    c_trans (c_eq {b = p * m * (a / p) + a % p * m} (ap (λ (x : ℕ). x * m) (sym (div-add-mod a p)) ∙ (simp ring)))
    (record { same = mul-add-mod_self_left (p * m) (a / p) (a % p * m) })

-- modulo p, hence modulo p m after a multiplication by a multiple of m
pub c_times : {p a b : ℕ} (m : ℕ) → Cong p a b → (x : ℕ) → m ∣ x → Cong (p * m) (a * x) (b * x)
c_times {p} {a} {b} m c x d =
    let e : m * (x / m) ≡ x = mul-div_cancel' m d in
    let s : Cong (p * m) (a * m) (b * m) = c_trans (times p m a) (c_trans (c_eq (ap (λ (y : ℕ). y * m) c.same)) (c_sym (times p m b))) in
    subst (λ (y : ℕ). Cong (p * m) (a * y) (b * y)) e
    (c_trans (c_eq (sym (mul_assoc a m (x / m)))) (c_trans (c_mul s c_refl) (c_eq (mul_assoc b m (x / m)))))
