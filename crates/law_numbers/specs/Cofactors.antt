-- The greatest common divisor of a, b and n, with cofactors of a and b modulo n.
--
--   gcd_three_unique      it is one
--   cofactors_of          had from a cofactor of a modulo n and one of b modulo the first divisor
use Rattle.std.specs.Prelude.{◌≡◌, ℕ, ◌+◌, ◌-◌, ◌*◌, ◌/◌, ◌%◌, ◌<◌, ◌≤◌}
use Rattle.std.proofs.Common.{sym, ap, subst, ◌∙◌, mod-lt, mul-one, add-sub_of_le, arith}
use Rattle.std.proofs.Math.Nat.{dvd_trans, dvd_antisymm, mod_self, zero-mod, mul-div_cancel', pos_of_dvd_of_pos, le_of_dvd}
use Rattle.definitions.specs.Residues.{Gcd, GcdWithCofactors}
use Rattle.law_numbers.specs.Congruence.{Cong, c_refl, c_trans, c_eq, c_add, c_mul, c_mod, c_sub, c_cancel, dvd_c, ring}
use Rattle.law_numbers.specs.Divisors.{GcdCofactor}

pub gcd_three_unique : {a b n g h : ℕ} → Gcd a b n g → Gcd a b n h → g ≡ h
gcd_three_unique {a} {b} {n} {g} {h} p q =
    dvd_antisymm (q.greatest g p.divides_a p.divides_b p.divides_n) (p.greatest h q.divides_a q.divides_b q.divides_n)

module _ {n a b g₁ g s₁ t₁ : ℕ} (pos : 1 ≤ n) (e : GcdCofactor n a g₁ s₁) (f : GcdCofactor g₁ b g t₁) where
  pub first_positive : 1 ≤ g₁
  first_positive = pos_of_dvd_of_pos e.gcd.left pos

  pub second_least : g ≤ g₁
  second_least = le_of_dvd first_positive f.gcd.left

  -- t₁ b is g modulo g₁: with g₁ - g it is a multiple of g₁
  whole : g₁ * ((t₁ * b + (g₁ - g)) / g₁) ≡ t₁ * b + (g₁ - g)
  whole = mul-div_cancel' g₁ (dvd_c
      (c_trans (c_add (record { same = f.bezout }) c_refl)
      (c_trans (c_eq (add-sub_of_le second_least)) (record { same = mod_self g₁ ∙ sym (zero-mod g₁) }))))

  -- t₁ b + (g₁ - g) is c g₁, so g is t₁ b + (1 - c) g₁, and g₁ is s₁ a modulo n
  pub cofactors_of : {c m u s t : ℕ} → c ≡ (t₁ * b + (g₁ - g)) / g₁ → m ≡ c % n → u ≡ (1 + (n - m)) % n → s ≡ (s₁ * u) % n → t ≡ t₁ % n
      → GcdWithCofactors n a b g s t
  cofactors_of {c} {m} {u} {s} {t} ec em eu es et =
      let one : g₁ * c ≡ t₁ * b + (g₁ - g) = ap (λ (x : ℕ). g₁ * x) ec ∙ whole in
      let less : Cong n (u + c) 1 = c_trans (c_add (c_eq (eu ∙ ap (λ (x : ℕ). (1 + (n - x)) % n) em)) c_refl) (c_sub c pos) in
      let rotated : Cong n (s * a) (g₁ * u) =
      c_trans (c_mul (c_trans (c_eq es) (c_mod (s₁ * u))) (c_refl {a = a}))
      (c_trans (c_eq {b = s₁ * a * u} (simp ring)) (c_mul (record { same = e.bezout }) (c_refl {a = u}))) in
      record {
        gcd = record {
          divides_a = dvd_trans g f.gcd.left e.gcd.right;
          divides_b = f.gcd.right;
          divides_n = dvd_trans g f.gcd.left e.gcd.left;
          greatest = λ k ka kb kn. f.gcd.most k (e.gcd.most k kn ka) kb;
        };
        least = pos_of_dvd_of_pos f.gcd.left first_positive;
        most = le_of_dvd pos (dvd_trans g f.gcd.left e.gcd.left);
        below_s = subst (λ (x : ℕ). x < n) (sym es) (mod-lt (s₁ * u) pos);
        below_t = subst (λ (x : ℕ). x < n) (sym et) (mod-lt t₁ pos);
        sum = (c_cancel (g₁ * c) pos
            (c_trans (c_add (c_add rotated (c_mul (c_trans (c_eq et) (c_mod t₁)) (c_refl {a = b}))) (c_refl {a = g₁ * c}))
            (c_trans (c_eq {b = g₁ * (u + c) + t₁ * b} (simp ring))
            (c_trans (c_add (c_trans (c_mul (c_refl {a = g₁}) less) (c_eq (mul-one g₁))) (c_refl {a = t₁ * b}))
            (c_eq (ends (t₁ * b) (g₁ * c) one)))))).same;
      }
    where
      ends : (x y : ℕ) → y ≡ x + (g₁ - g) → g₁ + x ≡ g + y
      ends x y h = let l = second_least in omega arith
