-- The Chinese remainder: for coprime n₁ and n₂ a residue modulo n₁ n₂ is one modulo each of them.
--
--   Idempotent n₁ n₂ e    e is 1 modulo n₁ and 0 modulo n₂, and a residue modulo n₁ n₂
--   Joined n₁ n₂ x y r    r is x modulo n₁ and y modulo n₂, and a residue modulo n₁ n₂
--   chinese_same          congruent modulo n₁ and modulo n₂, hence modulo n₁ n₂
--   idempotent_of, idempotent_exists    e, from a cofactor of n₂
--   joined_of, joined_exists, joined_unique    r, from e; there is one, and only one
use Rattle.std.specs.Prelude.{◌≡◌, ℕ, ◌+◌, ◌-◌, ◌*◌, ◌%◌, ◌<◌, ◌≤◌}
use Rattle.std.proofs.Common.{sym, ◌∙◌, mod-lt, mod-eq_of_lt, le_of_lt, zero-mul, one-mul, add-zero, mul-pos, add-sub_of_le, arith}
use Rattle.std.proofs.Math.Nat.{mod-mod_of_dvd, zero-mod, dvd-mul_left, dvd-mul_right}
use Rattle.std.proofs.Math.Decide.{dec_le}
use Rattle.definitions.specs.Residues.{Coprime}
use Rattle.law_numbers.specs.Congruence.{Cong, c_refl, c_sym, c_trans, c_eq, c_add, c_mul}
use Rattle.law_numbers.specs.Congruence.{c_mod, c_dvd, c_zero, dvd_difference, c_difference}
use Rattle.law_numbers.specs.Coprimality.{coprime_product}
use Rattle.law_numbers.specs.Units.{unit_of_coprime, inverse_times}

pub record Idempotent (n₁ n₂ e : ℕ) : Type 0 where
  pub below : e < n₁ * n₂
  pub one : e % n₁ ≡ 1 % n₁
  pub none : e % n₂ ≡ 0

pub record Joined (n₁ n₂ x y r : ℕ) : Type 0 where
  pub below : r < n₁ * n₂
  pub first : r % n₁ ≡ x % n₁
  pub second : r % n₂ ≡ y % n₂

-- s n₂ is 1 modulo n₁
pub idempotent_of : {n₁ n₂ : ℕ} (s : ℕ) → 1 ≤ n₁ → 1 ≤ n₂ → Cong n₁ (s * n₂) 1 → Idempotent n₁ n₂ ((s * n₂) % (n₁ * n₂))
idempotent_of {n₁} {n₂} s l₁ l₂ c = record {
  below = mod-lt (s * n₂) (mul-pos l₁ l₂);
  one = (c_trans (c_dvd (dvd-mul_right n₁ n₂) (c_mod (s * n₂))) c).same;
  none = (c_trans (c_dvd (dvd-mul_left n₂ n₁) (c_mod (s * n₂))) (c_zero (dvd-mul_left n₂ s))).same ∙ zero-mod n₂;
}

pub idempotent_exists : {n₁ n₂ : ℕ} → 1 ≤ n₁ → 1 ≤ n₂ → Coprime n₁ n₂ → (e : ℕ) × Idempotent n₁ n₂ e
idempotent_exists {n₁} {n₂} l₁ l₂ c =
    let u = unit_of_coprime l₁ c in
    ((u.inverse * n₂) % (n₁ * n₂), idempotent_of u.inverse l₁ l₂ (inverse_times u))

-- y + e (x - y), the difference as x + (n₁ n₂ - y)
pub joined_of : {n₁ n₂ e : ℕ} (x y : ℕ) → 1 ≤ n₁ → 1 ≤ n₂ → y ≤ n₁ * n₂ → Idempotent n₁ n₂ e
    → Joined n₁ n₂ x y ((y + e * ((x + (n₁ * n₂ - y)) % (n₁ * n₂))) % (n₁ * n₂))
joined_of {n₁} {n₂} {e} x y l₁ l₂ b i =
    let n : ℕ = n₁ * n₂ in
    let d : ℕ = (x + (n - y)) % n in
    -- y + d is x modulo n
    let back : Cong n (y + d) x =
    c_trans (c_add (c_refl {a = y}) (c_mod (x + (n - y))))
    (c_trans (c_eq {b = x + n * 1} (iteration n (n - y) (add-sub_of_le b)))
    (c_trans (c_add (c_refl {a = x}) (c_zero (dvd-mul_right n 1)))
    (c_eq (add-zero x)))) in
    record {
      below = mod-lt (y + e * d) (mul-pos l₁ l₂);
      first = (c_trans (c_dvd (dvd-mul_right n₁ n₂) (c_mod (y + e * d)))
          (c_trans (c_add (c_refl {a = y}) (c_trans (c_mul (record { same = i.one }) (c_refl {a = d})) (c_eq (one-mul d))))
          (c_dvd (dvd-mul_right n₁ n₂) back))).same;
      second = (c_trans (c_dvd (dvd-mul_left n₂ n₁) (c_mod (y + e * d)))
          (c_trans (c_add (c_refl {a = y})
          (c_trans (c_mul (record { same = i.none ∙ sym (zero-mod n₂) }) (c_refl {a = d})) (c_eq (zero-mul d))))
          (c_eq (add-zero y)))).same;
    }
  where
    iteration : (n z : ℕ) → y + z ≡ n → y + (x + z) ≡ x + n * 1
    iteration n z h = omega arith

pub chinese_same : {n₁ n₂ x y : ℕ} → 1 ≤ n₁ → 1 ≤ n₂ → Coprime n₁ n₂ → Cong n₁ x y → Cong n₂ x y → Cong (n₁ * n₂) x y
chinese_same {n₁} {n₂} {x} {y} l₁ l₂ c p q = pick (dec_le x y)
  where
    up : (u v : ℕ) → u ≤ v → Cong n₁ u v → Cong n₂ u v → Cong (n₁ * n₂) u v
    up u v l p q = c_difference l (coprime_product l₁ c (dvd_difference l₁ l p) (dvd_difference l₂ l q))

    pick : Dec (x ≤ y) → Cong (n₁ * n₂) x y
    pick (yes l) = up x y l p q
    pick (no l) = c_sym (up y x (omega arith) (c_sym p) (c_sym q))

pub joined_unique : {n₁ n₂ x y r r' : ℕ} → 1 ≤ n₁ → 1 ≤ n₂ → Coprime n₁ n₂ → Joined n₁ n₂ x y r → Joined n₁ n₂ x y r' → r ≡ r'
joined_unique {n₁} {n₂} {x} {y} {r} {r'} l₁ l₂ c j k =
    sym (mod-eq_of_lt j.below)
    ∙ (chinese_same l₁ l₂ c (record { same = j.first ∙ sym k.first }) (record { same = j.second ∙ sym k.second })).same
    ∙ mod-eq_of_lt k.below
