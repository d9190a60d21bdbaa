-- The least cofactors s and t of a and b modulo n: of all with s a + t b = g the least s, and then the least t. h is gcd(b, n) and
-- g is gcd(a, h): s counts modulo h / g, and t modulo n / h.
--
--   cofactor_modulo       s may be taken modulo m / g where s a is g modulo m
--   least_of, least_from  had from a cofactor of b modulo n and one of a modulo the first divisor
--   Positive              none of h, g, h / g and n / h is 0
--   least_unique          they are one pair
use Rattle.std.specs.Prelude.{◌≡◌, ℕ, ◌+◌, ◌-◌, ◌*◌, ◌/◌, ◌%◌, ◌<◌, ◌≤◌}
use Rattle.std.proofs.Common.{sym, ap, subst, ◌∙◌, mod-lt, mod-eq_of_lt, div-le_self, le_antisymm, le_trans, lt_of_lt_of_le, mul-div_cancel, mul-lt-mul_of_pos_right, add_comm, add-zero}
use Rattle.std.proofs.Math.Nat.{mod-le, pos_of_dvd_of_pos, le_of_dvd, dvd_refl, dvd_trans, dvd-mul_left, div-mul_cancel}
use Rattle.definitions.specs.Residues.{GcdWithCofactors, LeastCofactors}
use Rattle.law_numbers.specs.Congruence.{Cong, c_refl, c_sym, c_trans, c_eq, c_add, c_mul, c_mod, c_cancel, c_dvd, c_zero, c_times}
use Rattle.law_numbers.specs.Congruence.{ring}
use Rattle.law_numbers.specs.Divisors.{GcdCofactor}
use Rattle.law_numbers.specs.Kinds.{quotient_positive}
use Rattle.law_numbers.specs.Cofactors.{first_positive, cofactors_of}

-- a common factor is divided out of both sides and of the modulus
c_quotient : {p x y : ℕ} (g : ℕ) → 0 < g → 0 < p → Cong (p * g) (x * g) (y * g) → Cong p x y
c_quotient {p} {x} {y} g lg lp c =
    record {
      same = sym (mul-div_cancel (x % p) lg)
          ∙ ap (λ (z : ℕ). z / g) (sym (whole x) ∙ c.same ∙ whole y)
          ∙ mul-div_cancel (y % p) lg;
    }
  where
    whole : (z : ℕ) → z * g % (p * g) ≡ z % p * g
    whole z = (c_times g (c_sym (c_mod {n = p} z)) g (dvd_refl g)).same ∙ mod-eq_of_lt (mul-lt-mul_of_pos_right (mod-lt z lp) lg)

module _ {m a g s₁ : ℕ} (pos : 1 ≤ m) (e : GcdCofactor m a g s₁) where
  g_positive : 1 ≤ g
  g_positive = pos_of_dvd_of_pos e.gcd.left pos

  quotient_above : 1 ≤ m / g
  quotient_above = quotient_positive g pos e.gcd.left

  is : m / g * g ≡ m
  is = div-mul_cancel g e.gcd.left

  -- numbers that agree modulo m / g have one product with a
  same_product : {s s' : ℕ} → Cong (m / g) s s' → Cong m (s * a) (s' * a)
  same_product {s} {s'} c = subst (λ (x : ℕ). Cong x (s * a) (s' * a)) is (c_times g c a e.gcd.right)

  -- and no others have
  only_product : {s s' : ℕ} → Cong m (s * a) (s' * a) → Cong (m / g) s s'
  only_product {s} {s'} c =
      c_quotient g g_positive quotient_above
      (subst (λ (x : ℕ). Cong x (s * g) (s' * g)) (sym is) (c_trans (rotated s) (c_trans (c_mul c (c_refl {a = s₁})) (c_sym (rotated s')))))
    where
      rotated : (z : ℕ) → Cong m (z * g) (z * a * s₁)
      rotated z = c_trans (c_mul (c_refl {a = z}) (c_sym (record { same = e.bezout }))) (c_eq (simp ring))

  -- so the one below m / g is the least
  least_product : {s s' : ℕ} → s < m / g → Cong m (s * a) (s' * a) → s ≤ s'
  least_product {s} {s'} l c = subst (λ (x : ℕ). x ≤ s') (sym (only_product c).same ∙ mod-eq_of_lt l) (mod-le s' (m / g))

  -- s may be taken modulo m / g where s a is g modulo m
  pub cofactor_modulo : GcdCofactor m a g (s₁ % (m / g))
  cofactor_modulo = record {
    gcd = e.gcd;
    at_most = le_trans (mod-le s₁ (m / g)) e.at_most;
    bezout = (c_trans (same_product (c_mod s₁)) (record { same = e.bezout })).same;
  }

module _ {n a b h g t₁ s : ℕ} (pos : 1 ≤ n) (e : GcdCofactor n b h t₁) (f : GcdCofactor h a g s) (below : s < h / g) where
  h_positive : 1 ≤ h
  h_positive = pos_of_dvd_of_pos e.gcd.left pos

  -- any t that fits is taken modulo n / h
  pub least_of : (t : ℕ) → Cong n (s * a + t * b) g → LeastCofactors n a b g s (t % (n / h))
  least_of t c =
      let same : Cong n (t % (n / h) * b) (t * b) = same_product pos e (c_mod t) in
      let sum : Cong n (s * a + t % (n / h) * b) g = c_trans (c_add c_refl same) c in
      record {
        below_s = lt_of_lt_of_le below (le_trans (div-le_self h g) (le_of_dvd pos e.gcd.left));
        below_t = lt_of_lt_of_le (mod-lt t (quotient_above pos e)) (div-le_self n h);
        sum = sum.same;
        first = λ s' t' x. least_product h_positive f below
            (c_trans (record { same = f.bezout }) (c_sym (first_alone s' t' (record { same = x }))));
        second = λ t' x. least_product pos e (mod-lt t (quotient_above pos e)) (second_alone (t % (n / h)) t' sum (record { same = x }));
      }
    where
      -- modulo h the second summand vanishes
      first_alone : (s' t' : ℕ) → Cong n (s' * a + t' * b) g → Cong h (s' * a) g
      first_alone s' t' x =
          c_trans (c_eq (sym (add-zero (s' * a))))
          (c_trans (c_add (c_refl {a = s' * a}) (c_sym (c_zero (dvd_trans h e.gcd.right (dvd-mul_left b t')))))
          (c_dvd e.gcd.left x))

      second_alone : (x y : ℕ) → Cong n (s * a + x * b) g → Cong n (s * a + y * b) g → Cong n (x * b) (y * b)
      second_alone x y p q =
          c_cancel (s * a) pos (c_trans (c_eq (add_comm (x * b) (s * a))) (c_trans p (c_trans (c_sym q) (c_eq (add_comm (s * a) (y * b))))))

-- S14: "Both are fixed from then on"
pub least_unique : {n a b g s t s' t' : ℕ} → LeastCofactors n a b g s t → LeastCofactors n a b g s' t' → (s ≡ s') × (t ≡ t')
least_unique {n} {a} {b} {g} {s} {t} {s'} {t'} p q =
    let e : s ≡ s' = le_antisymm (p.first s' t' q.sum) (q.first s t p.sum) in (
      e,
      le_antisymm (p.second t' (subst (λ (x : ℕ). (x * a + t' * b) % n ≡ g % n) (sym e) q.sum))
          (q.second t (subst (λ (x : ℕ). (x * a + t * b) % n ≡ g % n) e p.sum)),
    )

-- no divisor is 0: g divides h, which divides n
pub record Positive (n h g : ℕ) : Type 0 where
  pub h_least : 1 ≤ h
  pub g_least : 1 ≤ g
  pub first : 1 ≤ h / g
  pub second : 1 ≤ n / h
  pub both : 1 ≤ n / g

-- s and t worked out of the two cofactors, step by step
module _ {n a b h g t₁ s₁ : ℕ} (pos : 1 ≤ n) (e : GcdCofactor n b h t₁) (f : GcdCofactor h a g s₁) where
  pub positive : Positive n h g
  positive = record {
    h_least = first_positive pos e f;
    g_least = pos_of_dvd_of_pos f.gcd.left (first_positive pos e f);
    first = quotient_above (first_positive pos e f) f;
    second = quotient_above pos e;
    both = quotient_positive g pos (dvd_trans g f.gcd.left e.gcd.left);
  }

  reduced_first : {s : ℕ} → s ≡ s₁ % (h / g) → GcdCofactor h a g s
  reduced_first {s} es = subst (GcdCofactor h a g) (sym es) (cofactor_modulo (first_positive pos e f) f)

  pub least_from : {s c m u v t : ℕ} → s ≡ s₁ % (h / g) → c ≡ (s * a + (h - g)) / h → m ≡ c % n → u ≡ (1 + (n - m)) % n
      → v ≡ (t₁ * u) % n → t ≡ v % (n / h) → GcdWithCofactors n a b g s t × LeastCofactors n a b g s t
  least_from {s} {c} {m} {u} {v} {t} es ec em eu ev et =
      let below : s < h / g = subst (λ (x : ℕ). x < h / g) (sym es) (mod-lt s₁ (quotient_above (first_positive pos e f) f)) in
      let small : s < n = lt_of_lt_of_le below (le_trans (div-le_self h g) (le_of_dvd pos e.gcd.left)) in
      let x : GcdWithCofactors n b a g v s = cofactors_of pos e (reduced_first es) ec em eu ev (sym (mod-eq_of_lt small)) in
      let y : LeastCofactors n a b g s t = subst (LeastCofactors n a b g s) (sym et)
      (least_of pos e (reduced_first es) below v (c_trans (c_eq (add_comm (s * a) (v * b))) (record { same = x.sum }))) in (
        record {
          gcd = record {
            divides_a = x.gcd.divides_b;
            divides_b = x.gcd.divides_a;
            divides_n = x.gcd.divides_n;
            greatest = λ k ka kb kn. x.gcd.greatest k kb ka kn;
          };
          least = x.least;
          most = x.most;
          below_s = y.below_s;
          below_t = y.below_t;
          sum = y.sum;
        },
        y,
      )
