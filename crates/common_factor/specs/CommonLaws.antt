-- Laws of what two polynomials have in common modulo m, over any m.
--
--   only_zero_of_reduced    modulo D only zero is reached
--   only_zero_dvd           and so modulo a divisor of the modulus
--   only_zero_cong, only_zero_flip, only_zero_rest    words count modulo m; exchanged; f = q g + r
--   not_constant            a unit constant cannot come up where only zero is reached
--   divides_trans, divides_rest            what divides a divisor; what divides g and r divides f = q g + r
--   divides_constant, divides_zero, divides_cong    constant multiples, zero, and words modulo m
--   divided_dvd             a division modulo a divisor of m
--
-- Letters: m and M are moduli, m a divisor of M; h is a divisor; q and r are quotient and remainder; c and D are constants.
use Rattle.std.specs.Prelude.{◌≡◌, List, [], ◌∷◌, length, pos}
use Rattle.std.proofs.Math.Path.{refl, sym, ap, fun_ext}
use Rattle.std.proofs.Common.{◌∙◌, ap₂, subst, mod-eq_of_lt, arith}
use Prim.Native.Nat.{ℕ, zero, suc, ◌<◌, ◌≤◌, ◌%◌, ◌/◌, ◌∣◌, ◌+◌, ◌-◌, ◌*◌}
use Rattle.std.proofs.Math.Nat.{zero-div, dvd_refl, dvd-mul_right, mul-div_cancel', dvd_of_mul-dvd-mul_left, eq-one_of_dvd-one}
use Rattle.definitions.specs.Checks.{convolve_beyond}
use Rattle.definitions.specs.Residues.{IsUnit}
use Rattle.definitions.specs.Polynomials.{coef, convolve, constant, tabulate, Divided}
use Rattle.definitions.specs.Resultants.{Reached, Reduced}
use Rattle.law_algebra.specs.Normaliser.{quote, by_ring}
use Rattle.law_algebra.specs.Reduction.{reduce_hom}
use Rattle.law_algebra.specs.Residues.{Res, toRes, Res_ring}
use Rattle.law_algebra.specs.Series.{series, conv_comm, conv_const, Finite, const, fin_add, fin_mul, fin_neg}
use Rattle.law_numbers.specs.Congruence.{c_refl, c_trans, c_eq, c_add, c_mul, c_dvd, dvd_c, c_zero}
use Rattle.law_numbers.specs.Units.{inverse_times}
use Rattle.law_polynomials.specs.ReachedLaws.{words_finite, words_spell, spell, to_ring, from_ring, only_any, all_any, reached_cong}
use Rattle.law_polynomials.specs.ReducedLaws.{rest_up, flip}
use Rattle.law_polynomials.specs.ReachedSteps.{lift_mod, constant_scale, convolve_mod, convolve_constant, convolve_scale_left}
use Rattle.law_polynomials.specs.ReachedSteps.{coef_whole, coef_beyond}
use Rattle.law_polynomials.specs.Words.{words, convolve_is, divided_is, multiplied_is}
use Rattle.common_factor.specs.Common.{DividesModulo, OnlyZero}

-- ---- only zero

-- no words
convolve_none : (g : List ℕ) (k : ℕ) → convolve (coef []) (coef g) k ≡ 0
convolve_none g k = ap (λ (a : ℕ → ℕ). convolve a (coef g) k) (fun_ext none) ∙ convolve_constant 0 (coef g) k ∙ nil (coef g k)
  where
    none : (k : ℕ) → coef [] k ≡ constant 0 k
    none zero = refl
    none (suc k) = refl

    nil : (y : ℕ) → 0 * y ≡ 0
    nil y = omega arith

less : (D y : ℕ) → 1 ≤ D → y + (D - 1) * y ≡ D * y
less D y l = go D (D - 1) (omega arith)
  where
    go : (D x : ℕ) → D ≡ suc x → y + x * y ≡ D * y
    go D x e = more x ∙ ap (λ z. z * y) (sym e)
      where
        more : (x : ℕ) → y + x * y ≡ suc x * y
        more x = omega arith

-- what is reached modulo D, times D less 1, is reached modulo n = m + 1
module _ (m : ℕ) (D c : ℕ) (f g : List ℕ) (least : 1 ≤ D) (known : Reached (suc m) f g D) (x : Reached D f g c) where
  open series (Res_ring m) use {add as ◌+ₛ◌, mul as ◌*ₛ◌, neg as -ₛ◌}

  infixl 65 ◌+ₛ◌
  infixl 70 ◌*ₛ◌
  infix 75 -ₛ◌
  abbrev sum : ℕ → ℕ
  sum k = convolve (coef x.u) (coef f) k + convolve (coef x.v) (coef g) k

  abbrev rest : ℕ → ℕ
  rest k = constant ((D - 1) * c) k

  abbrev part : ℕ → ℕ
  part k = (sum k + rest k) / D

  whole : (k : ℕ) → D * part k ≡ sum k + rest k
  whole k = mul-div_cancel' D (dvd_c (c_trans (c_add (record { same = x.combination.sum k }) c_refl)
      (c_trans (c_eq (round k)) (c_zero (dvd-mul_right D _)))))
    where
      round : (k : ℕ) → constant c k + rest k ≡ D * constant c k
      round k = ap (λ y. constant c k + y) (constant_scale (D - 1) c k) ∙ less D (constant c k) least

  size : ℕ
  size = suc (length x.u + length f + (length x.v + length g))

  beyond : (k : ℕ) → size ≤ k → part k ≡ 0
  unfolding size
  beyond zero l = absurd (omega arith)
  beyond (suc k) l =
      ap (λ y. y / D) (ap₂ ◌+◌ (ap₂ ◌+◌ (convolve_beyond x.u f (suc k) (omega arith))
      (convolve_beyond x.v g (suc k) (omega arith))) nil)
      ∙ zero-div D
    where
      nil : rest (suc k) ≡ 0
      nil = refl

  H : ℕ → Res m
  H k = toRes m (part k)

  H_finite : Finite (Res_ring m) H
  unfolding H
  H_finite = record { size = size; short = record { out = λ k l. ap (toRes m) (beyond k l) } }

  sum_is : words m x.u *ₛ words m f +ₛ words m x.v *ₛ words m g ≡ (λ k. toRes m (sum k))
  sum_is = fun_ext (λ k. sym (
      (reduce_hom m).h_add (pos (convolve (coef x.u) (coef f) k)) (pos (convolve (coef x.v) (coef g) k))
      ∙ ap₂ (Res_ring m).add (convolve_is m (coef x.u) (coef f) k) (convolve_is m (coef x.v) (coef g) k)))

  multiple_is : H *ₛ const (Res_ring m) (toRes m D) ≡ (λ k. toRes m (sum k)) +ₛ const (Res_ring m) (toRes m ((D - 1) * c))
  unfolding H
  multiple_is = fun_ext (λ k.
      conv_comm (Res_ring m) H (const (Res_ring m) (toRes m D)) k ∙ conv_const (Res_ring m) (toRes m D) H k
      ∙ sym ((reduce_hom m).h_mul (pos D) (pos (part k))) ∙ ap (toRes m) (whole k)
      ∙ (reduce_hom m).h_add (pos (sum k)) (pos (rest k)) ∙ ap (λ (y : Res m). (Res_ring m).add (toRes m (sum k)) y) (at k))
    where
      at : (k : ℕ) → toRes m (rest k) ≡ const (Res_ring m) (toRes m ((D - 1) * c)) k
      at zero = refl
      at (suc k) = refl

  lifted : Reached (suc m) f g ((D - 1) * c)
  lifted = let r = to_ring m known in
      from_ring m (record {
        u = H *ₛ r.u +ₛ (-ₛ words m x.u);
        v = H *ₛ r.v +ₛ (-ₛ words m x.v);
        fin_u = fin_add (Res_ring m) (fin_mul (Res_ring m) H_finite r.fin_u) (fin_neg (Res_ring m) (words_finite m x.u));
        fin_v = fin_add (Res_ring m) (fin_mul (Res_ring m) H_finite r.fin_v) (fin_neg (Res_ring m) (words_finite m x.v));
        eq = round H r.u r.v (words m x.u) (words m x.v) (words m f) (words m g)
            ∙ ap₂ (λ (y z : ℕ → Res m). H *ₛ y +ₛ (-ₛ z)) r.eq sum_is
            ∙ ap (λ (y : ℕ → Res m). y +ₛ (-ₛ (λ k. toRes m (sum k)))) multiple_is
            ∙ cancel (λ k. toRes m (sum k)) (const (Res_ring m) (toRes m ((D - 1) * c)));
      })
    where
      round : (h a b u v f g : ℕ → Res m) → (h *ₛ a +ₛ (-ₛ u)) *ₛ f +ₛ (h *ₛ b +ₛ (-ₛ v)) *ₛ g ≡
          h *ₛ (a *ₛ f +ₛ b *ₛ g) +ₛ (-ₛ (u *ₛ f +ₛ v *ₛ g))
      round h a b u v f g =
          by_ring (series (Res_ring m)) (h ∷ a ∷ b ∷ u ∷ v ∷ f ∷ g ∷ []) (search quote depth 20) (search quote depth 20) refl

      cancel : (s c : ℕ → Res m) → s +ₛ c +ₛ (-ₛ s) ≡ c
      cancel s c = by_ring (series (Res_ring m)) (s ∷ c ∷ []) (search quote depth 20) (search quote depth 20) refl

-- modulo D only zero is reached
pub only_zero_of_reduced : (n D : ℕ) (f g : List ℕ) → 1 ≤ n → Reduced n f g D → OnlyZero D f g
only_zero_of_reduced zero D f g l r = absurd (omega arith)
only_zero_of_reduced (suc m) D f g l r = record {
  at = λ c x. rest_of D c r.least (only_any l r ((D - 1) * c) (lifted m D c f g r.least (all_any l r D (dvd_refl D)) x));
}
  where
    rest_of : (D c : ℕ) → 1 ≤ D → D ∣ (D - 1) * c → D ∣ c
    rest_of D c l h = dvd_c (c_trans (c_eq (nought c)) (c_trans (c_add (c_refl {a = c}) (record { same = sym (c_zero h).same }))
        (c_trans (c_eq (less D c l)) (c_zero (dvd-mul_right D c)))))
      where
        nought : (c : ℕ) → c ≡ c + 0
        nought c = omega arith

-- c times the words
scaled : ℕ → List ℕ → List ℕ
scaled c u = tabulate (length u) (λ k. c * coef u k)

scaled_at : (c : ℕ) (u : List ℕ) (k : ℕ) → coef (scaled c u) k ≡ c * coef u k
unfolding scaled
scaled_at c u k = coef_whole (length u) (λ k. c * coef u k) (λ k l. ap (λ y. c * y) (coef_beyond u k l) ∙ none c) k
  where
    none : (c : ℕ) → c * 0 ≡ 0
    none c = omega arith

convolve_scaled : (c : ℕ) (u f : List ℕ) (k : ℕ) → convolve (coef (scaled c u)) (coef f) k ≡ c * convolve (coef u) (coef f) k
convolve_scaled c u f k =
    ap (λ (a : ℕ → ℕ). convolve a (coef f) k) (fun_ext (scaled_at c u)) ∙ convolve_scale_left c (coef u) (coef f) k

only_zero_factor : (j m : ℕ) (f g : List ℕ) → 1 ≤ j → 1 ≤ m → OnlyZero (j * m) f g → OnlyZero m f g
only_zero_factor j m f g p l z = record { at = λ c x. dvd_of_mul-dvd-mul_left m p (z.at (j * c) (up c x)) }
  where
    spread : (a b : ℕ) → j * a + j * b ≡ j * (a + b)
    spread a b = omega arith

    up : (c : ℕ) → Reached m f g c → Reached (j * m) f g (j * c)
    up c x = record {
      u = scaled j x.u;
      v = scaled j x.v;
      combination = record {
        sum = λ k. ap (λ y. y % (j * m)) (ap₂ ◌+◌ (convolve_scaled j x.u f k) (convolve_scaled j x.v g k)
            ∙ spread (convolve (coef x.u) (coef f) k) (convolve (coef x.v) (coef g) k))
            ∙ lift_mod j m _ _ p l (x.combination.sum k) ∙ ap (λ y. y % (j * m)) (sym (constant_scale j c k));
      };
    }

-- and so modulo a divisor of the modulus
pub only_zero_dvd : (m M : ℕ) (f g : List ℕ) → 1 ≤ M → m ∣ M → OnlyZero M f g → OnlyZero m f g
only_zero_dvd m M f g L h z = go m (M / m) (mul-div_cancel' m h)
  where
    go : (m j : ℕ) → m * j ≡ M → OnlyZero m f g
    go zero j e = absurd (omega arith)
    go (suc m) zero e = absurd (omega arith)
    go (suc m) (suc j) e =
        only_zero_factor (suc j) (suc m) f g (omega arith) (omega arith) (subst (λ (y : ℕ). OnlyZero y f g) (round m j e) z)
      where
        round : (m j : ℕ) → suc m * suc j ≡ M → M ≡ suc j * suc m
        round m j e = omega arith

pub only_zero_cong : (m : ℕ) → 1 ≤ m → (f f' g g' : List ℕ) → ((k : ℕ) → coef f k % m ≡ coef f' k % m)
    → ((k : ℕ) → coef g k % m ≡ coef g' k % m) → OnlyZero m f g → OnlyZero m f' g'
only_zero_cong m l f f' g g' hf hg z = record {
  at = λ c x. z.at c (reached_cong m l f' f g' g (λ k. sym (hf k)) (λ k. sym (hg k)) c x);
}

pub only_zero_flip : (m : ℕ) → 1 ≤ m → (f g : List ℕ) → OnlyZero m f g → OnlyZero m g f
only_zero_flip zero l f g z = absurd (omega arith)
only_zero_flip (suc m) l f g z = record { at = λ c x. z.at c (flip m g f c x) }

-- f = q g + r: what g and r reach, f and g do
pub only_zero_rest : (m : ℕ) → 1 ≤ m → (f g q r : List ℕ) → Divided m f g q r → OnlyZero m f g → OnlyZero m g r
only_zero_rest zero l f g q r d z = absurd (omega arith)
only_zero_rest (suc m) l f g q r d z = record { at = λ c x. z.at c (flip m g f c (rest_up m g f q r c d x)) }

-- a unit constant cannot come up: it would reach 1
pub not_constant : (m : ℕ) → 2 ≤ m → (f g : List ℕ) → IsUnit m (coef f 0) → ((k : ℕ) → 0 < k → coef f k % m ≡ 0) → OnlyZero m f g → ⊥
not_constant m l f g u above z = go m l (eq-one_of_dvd-one (z.at 1 one))
  where
    go : (m : ℕ) → 2 ≤ m → m ≡ 1 → ⊥
    go m l e = omega arith

    i : ℕ
    i = u.inverse

    at : (k : ℕ) → (i * coef f k) % m ≡ constant 1 k % m
    at zero = (inverse_times u).same
    at (suc k) =
        (c_mul (c_refl {a = i}) (record { same = above (suc k) (omega arith) ∙ sym (mod-eq_of_lt (omega arith)) })).same
        ∙ ap (λ y. y % m) (none i)
      where
        none : (i : ℕ) → i * 0 ≡ 0
        none i = omega arith

    one : Reached m f g 1
    one = record {
      u = i ∷ [];
      v = [];
      combination = record {
        sum = λ k. ap (λ y. y % m) (ap₂ ◌+◌ (ap (λ (a : ℕ → ℕ). convolve a (coef f) k) (fun_ext word) ∙ convolve_constant i (coef f) k)
            (convolve_none g k) ∙ nought (i * coef f k)) ∙ at k;
      };
    }
      where
        word : (k : ℕ) → coef (i ∷ []) k ≡ constant i k
        word zero = refl
        word (suc k) = refl

        nought : (y : ℕ) → y + 0 ≡ y
        nought y = omega arith

-- ---- divisors

module _ (m : ℕ) where
  open series (Res_ring m) use {add as ◌+◌, mul as ◌*◌, neg as -◌}

  infixl 65 ◌+◌
  infixl 70 ◌*◌
  -- f = q h over Z/(m + 1), the quotient written out
  divides_by : (h f : List ℕ) (q : ℕ → Res m) → Finite (Res_ring m) q → words m f ≡ q * words m h → DividesModulo (suc m) h f
  divides_by h f q Q e = record {
    quotient = spell m Q.size q;
    equation = record {
      at = λ k. ap (λ (x : Res m). x.0) (ap (λ (x : ℕ → Res m). x k) (e ∙ ap (λ (x : ℕ → Res m). x * words m h)
          (sym (fun_ext (words_spell m Q.size q Q.short)))) ∙ sym (convolve_is m (coef (spell m Q.size q)) (coef h) k));
    };
  }

  trans_by : (h g f : List ℕ) → DividesModulo (suc m) h g → DividesModulo (suc m) g f → DividesModulo (suc m) h f
  trans_by h g f a b =
      divides_by h f (words m b.quotient * words m a.quotient)
      (fin_mul (Res_ring m) (words_finite m b.quotient) (words_finite m a.quotient))
      (multiplied_is m f b.quotient g b.equation ∙ ap (λ (x : ℕ → Res m). words m b.quotient * x)
      (multiplied_is m g a.quotient h a.equation) ∙ round (words m b.quotient) (words m a.quotient) (words m h))
    where
      round : (x y h : ℕ → Res m) → x * (y * h) ≡ x * y * h
      round x y h = by_ring (series (Res_ring m)) (x ∷ y ∷ h ∷ []) (search quote depth 20) (search quote depth 20) refl

  rest_by : (h f g q r : List ℕ) → Divided (suc m) f g q r → DividesModulo (suc m) h g → DividesModulo (suc m) h r
      → DividesModulo (suc m) h f
  rest_by h f g q r d a b =
      divides_by h f (words m q * words m a.quotient + words m b.quotient)
      (fin_add (Res_ring m) (fin_mul (Res_ring m) (words_finite m q) (words_finite m a.quotient)) (words_finite m b.quotient))
      (divided_is m f g q r d ∙ ap₂ (λ (x y : ℕ → Res m). words m q * x + y) (multiplied_is m g a.quotient h a.equation)
      (multiplied_is m r b.quotient h b.equation) ∙ round (words m q) (words m a.quotient) (words m b.quotient) (words m h))
    where
      round : (q x y h : ℕ → Res m) → q * (x * h) + y * h ≡ (q * x + y) * h
      round q x y h = by_ring (series (Res_ring m)) (q ∷ x ∷ y ∷ h ∷ []) (search quote depth 20) (search quote depth 20) refl

-- what divides a divisor divides
pub divides_trans : (m : ℕ) → 1 ≤ m → (h g f : List ℕ) → DividesModulo m h g → DividesModulo m g f → DividesModulo m h f
divides_trans zero l h g f = absurd (omega arith)
divides_trans (suc m) l h g f = trans_by m h g f

-- f = q g + r: what divides g and r divides f
pub divides_rest : (m : ℕ) → 1 ≤ m → (h f g q r : List ℕ) → Divided m f g q r → DividesModulo m h g → DividesModulo m h r
    → DividesModulo m h f
divides_rest zero l h f g q r = absurd (omega arith)
divides_rest (suc m) l h f g q r = rest_by m h f g q r

-- f = c h for a constant c
pub divides_constant : (m c : ℕ) (h f : List ℕ) → ((k : ℕ) → coef f k % m ≡ (c * coef h k) % m) → DividesModulo m h f
divides_constant m c h f e = record {
  quotient = c ∷ [];
  equation = record {
    at = λ k. e k ∙ ap (λ y. y % m)
        (sym (ap (λ (a : ℕ → ℕ). convolve a (coef h) k) (fun_ext word) ∙ convolve_constant c (coef h) k));
  };
}
  where
    word : (k : ℕ) → coef (c ∷ []) k ≡ constant c k
    word zero = refl
    word (suc k) = refl

-- everything divides 0
pub divides_zero : (m : ℕ) (h f : List ℕ) → ((k : ℕ) → coef f k % m ≡ 0 % m) → DividesModulo m h f
divides_zero m h f z = record { quotient = []; equation = record { at = λ k. z k ∙ ap (λ y. y % m) (sym (convolve_none h k)) } }

-- words count modulo m
pub divides_cong : (m : ℕ) → 1 ≤ m → (h h' f f' : List ℕ) → ((k : ℕ) → coef h k % m ≡ coef h' k % m)
    → ((k : ℕ) → coef f k % m ≡ coef f' k % m) → DividesModulo m h f → DividesModulo m h' f'
divides_cong m l h h' f f' eh ef d = record {
  quotient = d.quotient;
  equation = record {
    at = λ k. sym (ef k) ∙ d.equation.at k
        ∙ convolve_mod m l (coef d.quotient) (coef d.quotient) (coef h) (coef h') (λ i. refl) eh k;
  };
}

-- a division stays one modulo a divisor of the modulus
pub divided_dvd : (m M : ℕ) (f g q r : List ℕ) → m ∣ M → Divided M f g q r → Divided m f g q r
divided_dvd m M f g q r h d = record { at = λ k. (c_dvd h (record { same = d.at k })).same }
