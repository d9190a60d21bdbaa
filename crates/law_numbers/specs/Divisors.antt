-- Greatest common divisors, and what Euclid's algorithm keeps.
--
--   IsGcd a b g           g is the greatest common divisor of a and b
--   GcdCofactor n a g s   g is that of n and a, and s a is g modulo n; s is from 0 to n
--   Same a b x y          a and b have the common divisors that x and y have
--   gcd_exists, gcd_unique, bezout_exists
use Rattle.std.specs.Prelude.{◌≡◌, ℕ, zero, suc, ◌+◌, ◌-◌, ◌*◌, ◌/◌, ◌%◌, ◌<◌, ◌≤◌}
use Rattle.std.proofs.Common.{sym, subst, ◌∙◌, ⊎_elim, mod-lt, zero-mul, one-mul, eq-zero-or-pos, le_of_lt, arith}
use Rattle.std.specs.Int.{◌∣◌}
use Rattle.std.proofs.Math.Nat.{dvd-mod_iff, dvd_refl, dvd-zero, dvd_antisymm, mod_self, zero-mod, div-add-mod}
use Rattle.law_numbers.specs.Congruence.{Cong, c_refl, c_sym, c_trans, c_eq, c_add, c_mul, c_mod, c_sub, c_cancel, ring}

pub record IsGcd (a b g : ℕ) : Type 0 where
  pub left : g ∣ a
  pub right : g ∣ b
  pub most : (d : ℕ) → d ∣ a → d ∣ b → d ∣ g

pub record GcdCofactor (n a g s : ℕ) : Type 0 where
  pub gcd : IsGcd n a g
  pub at_most : s ≤ n
  pub bezout : (s * a) % n ≡ g % n

-- a and b have the common divisors that x and y have
pub record Same (a b x y : ℕ) : Type 0 where
  pub down : (d : ℕ) → d ∣ x → d ∣ y → (d ∣ a) × (d ∣ b)
  pub up : (d : ℕ) → d ∣ a → d ∣ b → (d ∣ x) × (d ∣ y)

pub same_start : (a b : ℕ) → Same a b a b
same_start a b = record { down = λ d p q. (p, q); up = λ d p q. (p, q) }

pub same_step : {a b x y : ℕ} → Same a b x y → Same a b y (x % y)
same_step {a} {b} {x} {y} s =
    record {
      down = λ d p q. s.down d ((dvd-mod_iff d {m = x} {n = y} p).0 q) p;
      up = λ d p q. ((s.up d p q).1, (dvd-mod_iff d {m = x} {n = y} (s.up d p q).1).1 (s.up d p q).0);
    }

pub same_end : {a b x y : ℕ} → Same a b x y → y ≡ 0 → IsGcd a b x
same_end {a} {b} {x} {y} s e =
    let none : x ∣ y = subst (λ (z : ℕ). x ∣ z) (sym e) (dvd-zero x) in
    record {
      left = (s.down x (dvd_refl x) none).0;
      right = (s.down x (dvd_refl x) none).1;
      most = λ d p q. (s.up d p q).0;
    }

-- ---- the greatest common divisor exists and is one

pub gcd_unique : {a b g h : ℕ} → IsGcd a b g → IsGcd a b h → g ≡ h
gcd_unique {a} {b} {g} {h} p q = dvd_antisymm (q.most g p.left p.right) (p.most h q.left q.right)

-- s a is x modulo n
pub record Multiple (n a s x : ℕ) : Type 0 where
  pub is : Cong n (s * a) x

-- the remainder of x by y is a multiple as x and y are
pub multiple_step : {n a x y s t : ℕ} → 0 < n → Multiple n a s x → Multiple n a t y → Multiple n a ((s + (n - (x / y * t) % n)) % n) (x % y)
multiple_step {n} {a} {x} {y} {s} {t} h p r =
    let q : ℕ = x / y in
    record {
      is = c_cancel (q * y) h
          (c_trans (c_add (c_refl {a = (s + (n - (q * t) % n)) % n * a}) (c_mul (c_refl {a = q}) (c_sym r.is)))
          (c_trans (c_eq {b = ((s + (n - (q * t) % n)) % n + q * t) * a} (simp ring))
          (c_trans (c_mul (c_sub (q * t) h) (c_refl {a = a})) (c_trans p.is (c_eq (sym ((simp ring) ∙ div-add-mod x y)))))));
    }

pub record HasCofactor (n a : ℕ) : Type 0 where
  pub g : ℕ
  pub s : ℕ
  pub is : GcdCofactor n a g s

module _ (n a : ℕ) (pos : 0 < n) where
  last : (x y s : ℕ) → Same n a x y → Multiple n a s x → y ≡ 0 → HasCofactor n a
  last x y s e p z = record {
    g = x;
    s = s % n;
    is = record { gcd = same_end e z; at_most = le_of_lt (mod-lt s pos); bezout = (c_trans (c_mul (c_mod s) c_refl) p.is).same };
  }

  iterations : (c x y s t : ℕ) → y < c → Same n a x y → Multiple n a s x → Multiple n a t y → HasCofactor n a
  iterations zero x y s t l e p q = absurd (omega arith)
  iterations (suc c) x y s t l e p q =
      ⊎_elim (last x y s e p)
      (λ h. iterations c y (x % y) t ((s + (n - (x / y * t) % n)) % n) (omega (arith, mod-lt x h)) (same_step e) q (multiple_step pos p q))
      (eq-zero-or-pos y)

  -- Bezout: the greatest common divisor of n and a is a multiple of a modulo n
  pub bezout_exists : HasCofactor n a
  bezout_exists =
      iterations (suc a) n a 0 1 (omega arith) (same_start n a)
      (record { is = c_trans (c_eq (zero-mul a)) (record { same = zero-mod n ∙ sym (mod_self n) }) })
      (record { is = c_eq (one-mul a) })

pub gcd_exists : (a b : ℕ) → (g : ℕ) × IsGcd a b g
gcd_exists zero b = (b, record { left = dvd-zero b; right = dvd_refl b; most = λ d p q. q })
gcd_exists (suc a) b = let h = bezout_exists (suc a) b (omega arith) in (h.g, h.is.gcd)
