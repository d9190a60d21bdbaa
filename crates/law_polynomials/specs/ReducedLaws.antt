-- The reduced resultant through the steps of the engine, as equivalences for constants and as equations for D.
--
--   reduced_content      D1: f = c f' and g = c g' modulo c n
--   reduced_unit         D2: f = a h with a invertible
--   reduced_rest         D3: g = q f + r
--   reduced_monic        D4: h monic of degree 1 or more and r = c r' modulo c n
--   reduced_one          D5: modulo 1
--   reduced_coprime, reduced_split    D6: modulo n₁ n₂, coprime; by Bézout's equation
--   Mixed, combination_mixed     multipliers modulo n₁ n₂ from those modulo n₁ and modulo n₂
--   reduced_flip         f and g exchanged
--   InversePolynomial    i a = 1 modulo n
--   reached_mod          what is reached modulo n is reached modulo a divisor
--
-- Letters: m is n less 1; c is a content, C a constant; a has the inverse i; q and r are quotient and remainder.
use Rattle.std.specs.Prelude.{◌≡◌, refl, List, [], ℕ, zero, suc, ◌<◌, ◌≤◌, ◌%◌, ◌/◌, ◌+◌, ◌*◌, length}
use Rattle.std.proofs.Common.{sym, ◌∙◌, ap, ap₂, subst, zero-add, add-zero, zero-mul, mul-zero, one-mul, mul-le-mul, mul-pos, arith}
use Rattle.std.proofs.Math.Path.{fun_ext}
use Rattle.std.specs.Int.{◌∣◌}
use native.Mathlib.Fin
use Rattle.std.proofs.Math.Nat.{mod-one, mod-mod_of_dvd, zero-mod, dvd_refl, dvd_trans, one-dvd, dvd-mul_left, dvd-mul_right, mul-dvd-mul, mul-dvd-mul_left, dvd_of_mul-dvd-mul_left, mul-div_cancel'}
use Rattle.definitions.specs.Polynomials.{Multiplied, Divided, coef, convolve, tabulate, constant}
use Rattle.definitions.specs.Residues.{Coprime}
use Rattle.definitions.specs.Resultants.{Combination, Reached, Reduced}
use Rattle.law_algebra.specs.Ideal.{exchange, unit_in, unit_out, rest_in, rest_out}
use Rattle.law_algebra.specs.Residues.{toRes, Res_ring}
use Rattle.law_algebra.specs.Series.{conv, const}
use Rattle.law_numbers.specs.Chinese.{Idempotent, idempotent_exists, chinese_same}
use Rattle.law_numbers.specs.Congruence.{Cong, c_refl, c_trans, c_eq, c_add, c_mul}
use Rattle.law_numbers.specs.Coprimality.{coprime_sym, coprime_dvd, coprime_product, coprime_of_bezout}
use Rattle.law_polynomials.specs.ReachedLaws.{words_finite, constant_is, to_ring, from_ring, only_any, all_any}
use Rattle.law_polynomials.specs.ReachedSteps.{convolve_mod, convolve_scale_left, convolve_add_left, coef_whole, coef_beyond}
use Rattle.law_polynomials.specs.ReachedSteps.{Times, content_divides, content_down, content_up, monic_divides, monic_down, monic_up}
use Rattle.law_polynomials.specs.Words.{words, convolve_is, divided_is, multiplied_is}

-- D is multiplied by c when the modulus is
scaled : (c n D : ℕ) (f f' g g' : List ℕ) → 1 ≤ c → 1 ≤ n → ((C : ℕ) → Reached (c * n) f g C → c ∣ C)
    → ((C : ℕ) → Reached (c * n) f g (c * C) → Reached n f' g' C)
    → ((C : ℕ) → Reached n f' g' C → Reached (c * n) f g (c * C)) → Reduced n f' g' D → Reduced (c * n) f g (c * D)
scaled c n D f f' g g' p q whole down up r = record {
  divides = mul-dvd-mul_left D c r.divides;
  least = mul-pos p r.least;
  most = mul-le-mul le_self r.most;
  only = λ C _ x.
      let e : c * (C / c) ≡ C = mul-div_cancel' c (whole C x) in
      subst (λ (y : ℕ). c * D ∣ y) e (mul-dvd-mul_left D c (only_any q r (C / c) (down (C / c) (subst (Reached (c * n) f g) (sym e) x))));
  all = λ C _ x.
      let e : c * (C / c) ≡ C = mul-div_cancel' c (dvd_trans c (dvd-mul_right c D) x) in
      subst (Reached (c * n) f g) e (up (C / c) (all_any q r (C / c)
      (dvd_of_mul-dvd-mul_left D p (subst (λ (y : ℕ). c * D ∣ y) (sym e) x))));
}
  where
    le_self : c ≤ c
    le_self = omega arith

-- D1
pub reduced_content : (c n D : ℕ) (f f' g g' : List ℕ) → 1 ≤ c → 1 ≤ n → Times (c * n) c f f' → Times (c * n) c g g' → Reduced n f' g' D
    → Reduced (c * n) f g (c * D)
reduced_content c n D f f' g g' p q tf tg =
    scaled c n D f f' g g' p q (content_divides c n p q f f' g g' tf tg) (content_down c n p q f f' g g' tf tg)
    (content_up c n p q f f' g g' tf tg)

-- D4
pub reduced_monic : (c n D : ℕ) (h r r' : List ℕ) (t : ℕ) → 1 ≤ c → 1 ≤ n → 1 ≤ t → coef h t % (c * n) ≡ 1 % (c * n)
    → ((k : ℕ) → t < k → coef h k % (c * n) ≡ 0)
    → Times (c * n) c r r' → Reduced n h r' D → Reduced (c * n) h r (c * D)
reduced_monic c n D h r r' t p q l top above tr =
    scaled c n D h h r r' p q (monic_divides c n p q h r r' t l top above tr) (monic_down c n p q h r r' t l top above tr)
    (monic_up c n p q h r r' t l top above tr)

-- the same constants
same : (n D : ℕ) (f f' g g' : List ℕ) → ((C : ℕ) → Reached n f g C → Reached n f' g' C) → ((C : ℕ) → Reached n f' g' C → Reached n f g C)
    → Reduced n f' g' D → Reduced n f g D
same n D f f' g g' down up r = record {
  divides = r.divides;
  least = r.least;
  most = r.most;
  only = λ C l x. r.only C l (down C x);
  all = λ C l x. up C (r.all C l x);
}

-- i a is 1 modulo n
pub record InversePolynomial (n : ℕ) (a i : List ℕ) : Type 0 where
  pub at : (k : ℕ) → convolve (coef i) (coef a) k % n ≡ constant 1 k % n

module _ (m : ℕ) where
  pub inverse_is : (a i : List ℕ) → InversePolynomial (suc m) a i
      → conv (Res_ring m) (words m i) (words m a) ≡ const (Res_ring m) (toRes m 1)
  inverse_is a i h = fun_ext (λ k. sym (convolve_is m (coef i) (coef a) k) ∙ Fin.val_path (h.at k) ∙ constant_is m 1 k)

  -- D2
  pub unit_down : (f a h g : List ℕ) (C : ℕ) → Multiplied (suc m) f a h → Reached (suc m) f g C → Reached (suc m) h g C
  unit_down f a h g C p r = from_ring m (unit_out (Res_ring m) (words_finite m a) (rw (multiplied_is m f a h p) at (to_ring m r)))

  pub unit_up : (f a i h g : List ℕ) (C : ℕ) → Multiplied (suc m) f a h → InversePolynomial (suc m) a i → Reached (suc m) h g C
      → Reached (suc m) f g C
  unit_up f a i h g C p q r = from_ring m (rw (multiplied_is m f a h p)
      (unit_in (Res_ring m) (words_finite m i) (inverse_is a i q) (to_ring m r)))

  -- D3
  pub rest_down : (f g q r : List ℕ) (C : ℕ) → Divided (suc m) g f q r → Reached (suc m) f g C → Reached (suc m) f r C
  rest_down f g q r C h x = from_ring m (rest_out (Res_ring m) (words_finite m q) (rw (divided_is m g f q r h) at (to_ring m x)))

  pub rest_up : (f g q r : List ℕ) (C : ℕ) → Divided (suc m) g f q r → Reached (suc m) f r C → Reached (suc m) f g C
  rest_up f g q r C h x = from_ring m (rw (divided_is m g f q r h) (rest_in (Res_ring m) (words_finite m q) (to_ring m x)))

  pub flip : (f g : List ℕ) (C : ℕ) → Reached (suc m) f g C → Reached (suc m) g f C
  flip f g C x = from_ring m (exchange (Res_ring m) (to_ring m x))

pub reduced_unit : (n : ℕ) → 1 ≤ n → (f a i h g : List ℕ) (D : ℕ) → Multiplied n f a h → InversePolynomial n a i → Reduced n h g D
    → Reduced n f g D
reduced_unit zero l f a i h g D p q = absurd (omega arith)
reduced_unit (suc m) l f a i h g D p q = same (suc m) D f h g g (λ C. unit_down m f a h g C p) (λ C. unit_up m f a i h g C p q)

pub reduced_rest : (n : ℕ) → 1 ≤ n → (f g q r : List ℕ) (D : ℕ) → Divided n g f q r → Reduced n f r D → Reduced n f g D
reduced_rest zero l f g q r D h = absurd (omega arith)
reduced_rest (suc m) l f g q r D h = same (suc m) D f f g r (λ C. rest_down m f g q r C h) (λ C. rest_up m f g q r C h)

pub reduced_flip : (n : ℕ) → 1 ≤ n → (f g : List ℕ) (D : ℕ) → Reduced n f g D → Reduced n g f D
reduced_flip zero l f g D = absurd (omega arith)
reduced_flip (suc m) l f g D = same (suc m) D g f f g (λ C. flip m g f C) (λ C. flip m f g C)

-- D5
pub reduced_one : (f g : List ℕ) → Reduced 1 f g 1
reduced_one f g = record {
  divides = dvd_refl 1;
  least = omega arith;
  most = omega arith;
  only = λ C _ _. one-dvd C;
  all = λ C _ _. record { u = []; v = []; combination = record { sum = λ k. mod-one _ ∙ sym (mod-one _) } };
}

-- D6
pub reached_mod : (d n : ℕ) (f g : List ℕ) (C : ℕ) → d ∣ n → Reached n f g C → Reached d f g C
reached_mod d n f g C h x = record {
  u = x.u;
  v = x.v;
  combination = record {
    sum = λ k. sym (mod-mod_of_dvd d _ h)
        ∙ ap (λ y. y % d) (x.combination.sum k) ∙ mod-mod_of_dvd d _ h;
  };
}

-- u is a p + b q modulo n, word by word
pub record Mixed (n a b : ℕ) (p q u : List ℕ) : Type 0 where
  pub at : (k : ℕ) → coef u k % n ≡ (a * coef p k + b * coef q k) % n

module _ {n₁ n₂ : ℕ} (p₁ : 1 ≤ n₁) (p₂ : 1 ≤ n₂) (coprime : Coprime n₁ n₂) where
  -- multipliers of C modulo n₁ n₂ from those of C₁ modulo n₁ and of C₂ modulo n₂
  pub combination_mixed : {a b C C₁ C₂ : ℕ} → Cong n₁ (a * C₁) C → Cong n₁ b 0 → Cong n₂ a 0 → Cong n₂ (b * C₂) C
      → (f g u u₁ u₂ v v₁ v₂ : List ℕ) → Mixed (n₁ * n₂) a b u₁ u₂ u → Mixed (n₁ * n₂) a b v₁ v₂ v
      → Combination n₁ f g u₁ v₁ C₁ → Combination n₂ f g u₂ v₂ C₂ → Combination (n₁ * n₂) f g u v C
  combination_mixed {a} {b} {C} {C₁} {C₂} a₁ b₁ a₂ b₂ f g u u₁ u₂ v v₁ v₂ mu mv x y = record { sum = λ k. (whole k).same }
    where
      -- what u₁ and v₁, u₂ and v₂ combine to
      P : ℕ → ℕ
      P k = convolve (coef u₁) (coef f) k + convolve (coef v₁) (coef g) k

      Q : ℕ → ℕ
      Q k = convolve (coef u₂) (coef f) k + convolve (coef v₂) (coef g) k

      mixed : (u p q f : List ℕ) → Mixed (n₁ * n₂) a b p q u → (k : ℕ)
          → Cong (n₁ * n₂) (convolve (coef u) (coef f) k) (a * convolve (coef p) (coef f) k + b * convolve (coef q) (coef f) k)
      mixed u p q f m k = record {
        same = convolve_mod (n₁ * n₂) (mul-pos p₁ p₂) (coef u) (λ i. a * coef p i + b * coef q i) (coef f) (coef f) m.at (λ i. refl) k
            ∙ ap (λ (z : ℕ). z % (n₁ * n₂))
            (convolve_add_left (λ i. a * coef p i) (λ i. b * coef q i) (coef f) k
            ∙ ap₂ ◌+◌ (convolve_scale_left a (coef p) (coef f) k) (convolve_scale_left b (coef q) (coef f) k));
      }

      round : (x y z w : ℕ) → a * x + b * y + (a * z + b * w) ≡ a * (x + z) + b * (y + w)
      round x y z w = omega arith

      -- a c is C, so it is at each coefficient of the constants
      constant_cong : {n : ℕ} (a c : ℕ) → Cong n (a * c) C → (k : ℕ) → Cong n (a * constant c k) (constant C k)
      constant_cong a c h zero = h
      constant_cong a c h (suc k) = c_eq (mul-zero a)

      -- modulo n₁ the second of the two is 0, modulo n₂ the first
      first : (k : ℕ) → Cong n₁ (a * P k + b * Q k) (constant C k)
      first k =
          c_trans (c_add (c_trans (c_mul c_refl (record { same = x.sum k })) (constant_cong a C₁ a₁ k)) (c_mul b₁ (c_refl {a = Q k})))
          (c_eq (ap (λ (z : ℕ). constant C k + z) (zero-mul (Q k)) ∙ add-zero (constant C k)))

      second : (k : ℕ) → Cong n₂ (a * P k + b * Q k) (constant C k)
      second k =
          c_trans (c_add (c_mul a₂ (c_refl {a = P k})) (c_trans (c_mul c_refl (record { same = y.sum k })) (constant_cong b C₂ b₂ k)))
          (c_eq (ap (λ (z : ℕ). z + constant C k) (zero-mul (P k)) ∙ zero-add (constant C k)))

      whole : (k : ℕ) → Cong (n₁ * n₂) (convolve (coef u) (coef f) k + convolve (coef v) (coef g) k) (constant C k)
      whole k =
          c_trans (c_add (mixed u u₁ u₂ f mu k) (mixed v v₁ v₂ g mv k))
          (c_trans (c_eq (round _ _ _ _)) (chinese_same p₁ p₂ coprime (first k) (second k)))

  -- each word with the idempotents e of n₁ and e' of n₂
  pub split_up : (f g : List ℕ) (C : ℕ) → Reached n₁ f g C → Reached n₂ f g C → Reached (n₁ * n₂) f g C
  split_up f g C x y = record {
    u = mix x.u y.u;
    v = mix x.v y.v;
    combination = combination_mixed (is_one i.1) (is_zero j.1) (is_zero i.1) (is_one j.1)
        f g _ x.u y.u _ x.v y.v (mixed x.u y.u) (mixed x.v y.v) x.combination y.combination;
  }
    where
      i : (e : ℕ) × Idempotent n₁ n₂ e
      i = idempotent_exists p₁ p₂ coprime

      j : (e : ℕ) × Idempotent n₂ n₁ e
      j = idempotent_exists p₂ p₁ (coprime_sym coprime)

      is_one : {n m e : ℕ} → Idempotent n m e → Cong n (e * C) C
      is_one h = c_trans (c_mul (record { same = h.one }) (c_refl {a = C})) (c_eq (one-mul C))

      is_zero : {n m e : ℕ} → Idempotent n m e → Cong m e 0
      is_zero {n} {m} h = record { same = h.none ∙ sym (zero-mod m) }

      mix : List ℕ → List ℕ → List ℕ
      mix u w = tabulate (length u + length w) (λ k. i.0 * coef u k + j.0 * coef w k)

      mixed : (u w : List ℕ) → Mixed (n₁ * n₂) i.0 j.0 u w (mix u w)
      mixed u w = record {
        at = λ k. ap (λ (z : ℕ). z % (n₁ * n₂)) (coef_whole (length u + length w) (λ k. i.0 * coef u k + j.0 * coef w k)
            (λ k l. ap₂ (λ y z. i.0 * y + j.0 * z) (coef_beyond u k (omega arith)) (coef_beyond w k (omega arith))
            ∙ none i.0 j.0) k);
      }
        where
          none : (s t : ℕ) → s * 0 + t * 0 ≡ 0
          none s t = omega arith

  pub reduced_coprime : (f g : List ℕ) (D₁ D₂ : ℕ) → Reduced n₁ f g D₁ → Reduced n₂ f g D₂ → Reduced (n₁ * n₂) f g (D₁ * D₂)
  reduced_coprime f g D₁ D₂ x y = record {
    divides = mul-dvd-mul D₁ D₂ x.divides y.divides;
    least = mul-pos x.least y.least;
    most = mul-le-mul x.most y.most;
    only = λ C _ z. coprime_product x.least (coprime_dvd x.divides y.divides coprime)
        (only_any p₁ x C (reached_mod n₁ (n₁ * n₂) f g C (dvd-mul_right n₁ n₂) z))
        (only_any p₂ y C (reached_mod n₂ (n₁ * n₂) f g C (dvd-mul_left n₂ n₁) z));
    all = λ C _ z. split_up f g C (all_any p₁ x C (dvd_trans D₁ (dvd-mul_right D₁ D₂) z))
        (all_any p₂ y C (dvd_trans D₂ (dvd-mul_left D₂ D₁) z));
  }

-- where a n₁ + b n₂ is 1 modulo n₁ n₂
pub reduced_split : (n₁ n₂ a b : ℕ) → 1 ≤ n₁ → 1 ≤ n₂ → (a * n₁ + b * n₂) % (n₁ * n₂) ≡ 1 % (n₁ * n₂) → (f g : List ℕ) (D₁ D₂ : ℕ)
    → Reduced n₁ f g D₁ → Reduced n₂ f g D₂ → Reduced (n₁ * n₂) f g (D₁ * D₂)
reduced_split n₁ n₂ a b p₁ p₂ bezout = reduced_coprime p₁ p₂ (coprime_of_bezout a b (record { same = bezout }))
