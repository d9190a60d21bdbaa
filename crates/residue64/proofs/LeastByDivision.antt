-- The least cofactors s and t of a and b modulo n, with no product above n: h is gcd(b, n), which is t₁ b modulo n, and g is gcd(a, h).
-- g - s a is a multiple of h, and t is t₁ times the quotient.
--
--   with_cofactors, least_cofactors    they are had so; the modulus of the products is n
--   residue_below    a residue modulo what is n is at most that
--   cofactors        the rules
use mathlib.Core.Path.{◌≡◌, sym, ap, subst, ◌∙◌}
use Prim.Native.Nat.{ℕ, ◌+◌, ◌-◌, ◌*◌, ◌/◌, ◌%◌, ◌<◌, ◌≤◌, ◌∣◌}
use native.Mathlib.Omega.{arith}
use native.Mathlib.Nat.{dvd_trans, mod-lt, mul-div_cancel', le_of_dvd, add_comm, add-zero}
use Rattle.definitions.specs.Residues.{GcdWithCofactors, LeastCofactors}
use Rattle.law_numbers.specs.Congruence.{Cong, c_refl, c_sym, c_trans, c_eq, c_add, c_mul, c_mod, c_sub, c_dvd, c_cancel, dvd_c, ring}
use Rattle.law_numbers.specs.Divisors.{GcdCofactor}
use Rattle.law_numbers.specs.LeastCofactors.{cofactor_modulo, least_of, positive}
use Rattle.residue.proofs.Rules.{divisors, residue_most}

module _ {n a b h g t₁ s₁ : ℕ} (pos : 1 ≤ n) (e : GcdCofactor n b h t₁) (f : GcdCofactor h a g s₁) where
  -- what is left of g, r = g - s a, with s a is g
  left : (s : ℕ) {p r : ℕ} → p ≡ (s * a) % n → r ≡ (g + (n - p)) % n → Cong n (r + s * a) g
  left s {p} {r} ep er =
      c_trans (c_add (c_eq (er ∙ ap (λ (x : ℕ). (g + (n - x)) % n) ep)) (c_refl {a = s * a})) (c_sub (s * a) pos)

  -- s a is g modulo h, so h divides r
  whole : {s r : ℕ} → GcdCofactor h a g s → Cong n (r + s * a) g → h ∣ r
  whole {s} {r} k c =
      dvd_c
      (c_cancel (s * a) (positive pos e f).h_least
      (c_trans (c_dvd e.gcd.left c) (c_trans (c_sym (record { same = k.bezout })) (c_eq (sym rule)))))
    where
      rule : 0 + s * a ≡ s * a
      rule = add_comm 0 (s * a) ∙ add-zero (s * a)

  module _ {n' s p r v t : ℕ} (et : t ≡ v % (n / h)) (ev' : v ≡ (t₁ * (r / h)) % n') (er' : r ≡ (g + (n' - p)) % n')
      (ep' : p ≡ (s * a) % n') (es : s ≡ s₁ % (h / g)) (en : n' ≡ n) where
    pub least_cofactors : LeastCofactors n a b g s t
    least_cofactors =
        let ev : v ≡ (t₁ * (r / h)) % n = rw en at ev' in
        let er : r ≡ (g + (n - p)) % n = rw en at er' in
        let ep : p ≡ (s * a) % n = rw en at ep' in
        let k : GcdCofactor h a g s = subst (GcdCofactor h a g) (sym es) (cofactor_modulo (positive pos e f).h_least f) in
        let below : s < h / g = subst (λ (x : ℕ). x < h / g) (sym es) (mod-lt s₁ (positive pos e f).first) in
        let c : Cong n (r + s * a) g = left s ep er in
        let rotated : Cong n (v * b) r =
        c_trans (c_mul (c_trans (c_eq ev) (c_mod (t₁ * (r / h)))) (c_refl {a = b}))
        (c_trans (c_eq {b = t₁ * b * (r / h)} (simp ring))
        (c_trans (c_mul (record { same = e.bezout }) (c_refl {a = r / h})) (c_eq (mul-div_cancel' h (whole k c))))) in
        subst (LeastCofactors n a b g s) (sym et)
        (least_of pos e k below v (c_trans (c_add (c_refl {a = s * a}) rotated) (c_trans (c_eq (add_comm (s * a) r)) c)))

    pub with_cofactors : GcdWithCofactors n a b g s t
    with_cofactors =
        let y = least_cofactors in
        let d = dvd_trans g f.gcd.left e.gcd.left in
        record {
          gcd = record {
            divides_a = f.gcd.right;
            divides_b = dvd_trans g f.gcd.left e.gcd.right;
            divides_n = d;
            greatest = λ x xa xb xn. f.gcd.most x (e.gcd.most x xn xb) xa;
          };
          least = (positive pos e f).g_least;
          most = le_of_dvd pos d;
          below_s = y.below_s;
          below_t = y.below_t;
          sum = y.sum;
        }

-- a residue modulo what is n
pub residue_below : {n n' r : ℕ} (x : ℕ) → r ≡ x % n' → n' ≡ n → 1 ≤ n → r ≤ n'
residue_below x e en l = residue_most x e (omega arith)

pub ruleset cofactors = (divisors, residue_below, with_cofactors, least_cofactors)
