-- How far the resultant r and the reduced resultant D can differ (S62). "When the top word of f is a unit, D divides the resultant, and
-- gcd(resultant, n) divides the d-th power of D, where the 0-th power is 1. The same holds with g and e."
--
--   Between n d r D      D divides r, and gcd(r, n) divides D ^ d
--   power_in_ring        over Z/(m + 1): u f + v g = x, the top coefficient of f a unit: x to the power d is a multiple of the resultant
--   Multiple m r x       x is a multiple of r there
--   power_of_reached     the same of words: D ^ d is a multiple of the resultant modulo n where D is reached
--   constant_reaches     d = 0: a unit constant f has D = 1
--   divides_first, power_first     the two halves of the law, the second for every common divisor of r and n
--   swapped_dvd          what divides n and the resultant of f and g divides that of g and f
--
-- proofs/Between has THE LAW, between_first and between_second.
--
-- The resultant of f and g is always that in their sent degrees d and e. On the way, with u of degree s at most, v of degree t at most and
-- k = s + t + e: the constant x as second polynomial is taken in degree k + d, which gives f_d^(k + d) x^d; x = u f + v g there, and u f is
-- taken away in the same degree, since u has degree k at most; v g is left, in degree (s + t + d) + e, v in degree s + t + d; so the
-- resultant of f and g in degrees d and e is a factor. With d = 0 all powers are 1: f is a unit, D is 1, and the resultant f_0^e is a unit.
-- With d = e = 0 the resultant is 1, and so is D where f or g is a unit; PowersChecks has the numbers, and why a unit is asked for.
--
-- Letters: m is n less 1; d, e are the sent degrees of f and g; s and t bound u and v; x is a constant, i the inverse of the top word;
-- h is the greatest common divisor of r and n, c any common divisor.
use Rattle.std.specs.Prelude.{◌≡◌, refl, List, [], ◌∷◌, ℕ, zero, suc, ◌<◌, ◌≤◌, ◌%◌, ◌^◌, ◌+◌ as ◌+ℕ◌, ◌*◌ as ◌*ℕ◌, ◌-◌}
use Rattle.std.proofs.Common.{sym, ◌∙◌, ap, ap₂, subst, mul_comm as comm, mul-zero, zero-mul, arith}
use Rattle.std.specs.Int.{◌∣◌}
use native.Mathlib.Fin
use Rattle.std.proofs.Math.Decide.{dec_le}
use Rattle.std.proofs.Math.Nat.{dvd_refl, dvd_trans, one-dvd, dvd-mod_iff, dvd-mul_left, dvd-sub, eq-one_of_dvd-one}
use Rattle.definitions.specs.Polynomials.{coef, deg, convolve, constant}
use Rattle.definitions.specs.Residues.{IsUnit}
use Rattle.definitions.specs.Resultants.{resultant, Reached, Reduced}
use Rattle.law_algebra.specs.Ideal.{Combines}
use Rattle.law_algebra.specs.ProductLaw.{Rs_mul}
use Rattle.law_algebra.specs.Residues.{Res, toRes, Res_ring, mul_mod}
use Rattle.law_algebra.specs.Ring.{pw, pw_one}
use Rattle.law_algebra.specs.SentLaws.{Rs, Rs_add_second, Rs_pad_second, Rs_const_second, Rs_swap}
use Rattle.law_algebra.specs.Series.{conv, const}
use Rattle.law_algebra.specs.Sum.{sgn, sgn_mul}
use Rattle.law_algebra.specs.Units.{pw_mul}
use Rattle.law_numbers.specs.Divisors.{IsGcd}
use Rattle.law_polynomials.specs.ReachedLaws.{to_ring, only_any, all_any, reduced_divides}
use Rattle.law_polynomials.specs.ReducedLaws.{reduced_flip}
use Rattle.law_polynomials.specs.ResultantLaws.{power_is, signed, resultant_swap}
use Rattle.law_polynomials.specs.Words.{words, words_out, resultant_is, convolve_zero, convolve_suc, coef_out}

-- what the law says of a resultant r and a D: h is gcd(r, n)
pub record Between (n d r D : ℕ) : Type 0 where
  pub divides : D ∣ r
  pub power : (h : ℕ) → IsGcd r n h → h ∣ D ^ d

module _ (m : ℕ) where
  open Res_ring m use {add as ◌+◌, mul as ◌*◌, nil as 𝟘, unit as 𝟙, mul_assoc, mul_comm, one_mul}

  infixl 65 ◌+◌
  infixl 70 ◌*◌
  -- x = y r for some y
  pub record Multiple (r x : Res m) : Type 0 where
    pub y : Res m
    pub eq : x ≡ y * r

  -- the resultant of f with v g, in degree w + e, is a multiple of that of f with g
  second_factor : (d w e : ℕ) (f v g : ℕ → Res m) → ((k : ℕ) → w < k → v k ≡ 𝟘) → ((k : ℕ) → e < k → g k ≡ 𝟘)
      → Multiple (Rs (Res_ring m) d e f g) (Rs (Res_ring m) d (w +ℕ e) f (conv (Res_ring m) v g))
  second_factor d w e f v g zv zg = record {
    y = sgn (Res_ring m) (d *ℕ (w +ℕ e)) (sgn (Res_ring m) (e *ℕ d) (Rs (Res_ring m) w d v f));
    eq = Rs_swap (Res_ring m) d (w +ℕ e) f (conv (Res_ring m) v g)
        ∙ ap (sgn (Res_ring m) (d *ℕ (w +ℕ e))) (Rs_mul m w e d v g f zv zg
        ∙ ap (λ (x : Res m). Rs (Res_ring m) w d v f * x) (Rs_swap (Res_ring m) e d g f)
        ∙ sgn_mul (Res_ring m) (e *ℕ d) (Rs (Res_ring m) w d v f) (Rs (Res_ring m) d e f g)
        ∙ sgn_left (e *ℕ d) (Rs (Res_ring m) w d v f) (Rs (Res_ring m) d e f g))
        ∙ sgn_left (d *ℕ (w +ℕ e)) _ (Rs (Res_ring m) d e f g);
  }
    where
      sgn_left : (k : ℕ) (x y : Res m) → sgn (Res_ring m) k (x * y) ≡ sgn (Res_ring m) k x * y
      sgn_left k x y = ap (sgn (Res_ring m) k) (mul_comm x y) ∙ sym (sgn_mul (Res_ring m) k y x) ∙ mul_comm y (sgn (Res_ring m) k x)

  -- u f + v g = x, u of degree s and v of degree t at most: f_d to a power, times x to the power d
  raised : (d e s t : ℕ) (f g u v : ℕ → Res m) (x : Res m) → ((k : ℕ) → d < k → f k ≡ 𝟘) → ((k : ℕ) → e < k → g k ≡ 𝟘)
      → ((k : ℕ) → s < k → u k ≡ 𝟘) → ((k : ℕ) → t < k → v k ≡ 𝟘)
      → (λ k. conv (Res_ring m) u f k + conv (Res_ring m) v g k) ≡ const (Res_ring m) x
      → Multiple (Rs (Res_ring m) d e f g) (pw (Res_ring m) (f d) (s +ℕ t +ℕ e +ℕ d) * pw (Res_ring m) x d)
  raised d e s t f g u v x zf zg zu zv h =
      let k : ℕ = s +ℕ t +ℕ e in
      let w : ℕ = s +ℕ t +ℕ d in
      let M = second_factor d w e f v g (λ i l. zv i (omega arith)) zg in
      record {
        y = M.y;
        eq = ap (λ (z : Res m). pw (Res_ring m) (f d) (k +ℕ d) * z) (sym (Rs_const_second (Res_ring m) d f (const (Res_ring m) x)))
            ∙ sym (Rs_pad_second (Res_ring m) d (k +ℕ d) 0 f (const (Res_ring m) x) above)
            ∙ ap₂ (λ (n : ℕ) (z : ℕ → Res m). Rs (Res_ring m) d n f z) (none (k +ℕ d)) (sym h)
            ∙ Rs_add_second (Res_ring m) d k f (conv (Res_ring m) v g) u zf (λ i l. zu i (omega arith))
            ∙ ap (λ (n : ℕ). Rs (Res_ring m) d n f (conv (Res_ring m) v g)) (round s t d e)
            ∙ M.eq;
      }
    where
      above : (i : ℕ) → 0 < i → const (Res_ring m) x i ≡ 𝟘
      above zero l = absurd (omega arith)
      above (suc i) l = refl

      none : (k : ℕ) → k +ℕ 0 ≡ k
      none k = omega arith

      round : (s t d e : ℕ) → s +ℕ t +ℕ e +ℕ d ≡ s +ℕ t +ℕ d +ℕ e
      round s t d e = omega arith

  pub power_in_ring : (d e : ℕ) (f g : ℕ → Res m) (x i : Res m) → ((k : ℕ) → d < k → f k ≡ 𝟘) → ((k : ℕ) → e < k → g k ≡ 𝟘) → f d * i ≡ 𝟙
      → Combines (Res_ring m) f g (const (Res_ring m) x) → Multiple (Rs (Res_ring m) d e f g) (pw (Res_ring m) x d)
  power_in_ring d e f g x i zf zg h c =
      let s : ℕ = c.fin_u.size in
      let t : ℕ = c.fin_v.size in
      let N : ℕ = s +ℕ t +ℕ e +ℕ d in
      let M = raised d e s t f g c.u c.v x zf zg (λ k l. c.fin_u.short.out k (omega arith))
      (λ k l. c.fin_v.short.out k (omega arith)) c.eq in
      record {
        y = pw (Res_ring m) i N * M.y;
        eq = sym (one_mul (pw (Res_ring m) x d))
            ∙ ap (λ (z : Res m). z * pw (Res_ring m) x d) (sym (sym (pw_mul (Res_ring m) i (f d) N)
            ∙ pw_one (Res_ring m) (i * f d) (mul_comm i (f d) ∙ h) N))
            ∙ mul_assoc (pw (Res_ring m) i N) (pw (Res_ring m) (f d) N) (pw (Res_ring m) x d)
            ∙ ap (λ (z : Res m). pw (Res_ring m) i N * z) M.eq
            ∙ sym (mul_assoc (pw (Res_ring m) i N) M.y (Rs (Res_ring m) d e f g));
      }

  -- the inverse of a word, as a residue
  inverse_is : (a : ℕ) (p : IsUnit (suc m) a) → toRes m a * toRes m p.inverse ≡ 𝟙
  inverse_is a p = Fin.val_path (sym (mul_mod a p.inverse (suc m)) ∙ p.is.one)

  -- the same of words
  pub power_of_reached : (f g : List ℕ) (D : ℕ) → IsUnit (suc m) (coef f (deg f)) → Reached (suc m) f g D
      → (y : ℕ) × ((D ^ deg f) % suc m ≡ (y *ℕ resultant (suc m) f g) % suc m)
  power_of_reached f g D p r =
      let M = power_in_ring (deg f) (deg g) (words m f) (words m g) (toRes m D) (toRes m p.inverse) (words_out m f) (words_out m g)
      (inverse_is (coef f (deg f)) p) (to_ring m r) in (
        M.y.0,
        ap (λ (z : Res m). z.0) (sym (power_is m D (deg f)) ∙ M.eq)
            ∙ ap (λ (z : ℕ). (M.y.0 *ℕ z) % suc m) (sym (resultant_is m f g)),
      )

  -- a unit constant reaches 1
  unit_constant : (f g : List ℕ) → deg f ≡ 0 → (p : IsUnit (suc m) (coef f 0)) → Reached (suc m) f g 1
  unit_constant f g h p = record {
    u = p.inverse ∷ [];
    v = [];
    combination = record {
      sum = λ k. ap (λ (z : ℕ). z % suc m) (ap₂ ◌+ℕ◌ (first k) (nothing k) ∙ none (p.inverse *ℕ coef f k)) ∙ value k;
    };
  }
    where
      none : (k : ℕ) → k +ℕ 0 ≡ k
      none k = omega arith

      silent : (p q : ℕ → ℕ) → ((i : ℕ) → p i ≡ 0) → (k : ℕ) → convolve p q k ≡ 0
      silent p q z zero = convolve_zero p q ∙ ap (λ (x : ℕ). x *ℕ q 0) (z 0) ∙ zero-mul (q 0)
      silent p q z (suc k) =
          convolve_suc p q k ∙ ap₂ (λ (x y : ℕ). x *ℕ q (suc k) +ℕ y) (z 0) (silent (λ i. p (suc i)) q (λ i. z (suc i)) k)
          ∙ ap (λ (x : ℕ). x +ℕ 0) (zero-mul (q (suc k)))

      nothing : (k : ℕ) → convolve (coef []) (coef g) k ≡ 0
      nothing k = silent (coef []) (coef g) (elim [ zero ↦ refl | suc i ↦ refl ]) k

      first : (k : ℕ) → convolve (coef (p.inverse ∷ [])) (coef f) k ≡ p.inverse *ℕ coef f k
      first zero = convolve_zero (coef (p.inverse ∷ [])) (coef f)
      first (suc k) =
          convolve_suc (coef (p.inverse ∷ [])) (coef f) k
          ∙ ap (λ (z : ℕ). p.inverse *ℕ coef f (suc k) +ℕ z)
          (silent (λ i. coef (p.inverse ∷ []) (suc i)) (coef f) (elim [ zero ↦ refl | suc i ↦ refl ]) k)
          ∙ none (p.inverse *ℕ coef f (suc k))

      value : (k : ℕ) → (p.inverse *ℕ coef f k) % suc m ≡ constant 1 k % suc m
      value zero = ap (λ (z : ℕ). z % suc m) (comm p.inverse (coef f 0)) ∙ p.is.one
      value (suc k) = ap (λ (z : ℕ). (p.inverse *ℕ z) % suc m) (coef_out f (suc k) (omega arith)) ∙ ap (λ (z : ℕ). z % suc m)
          (mul-zero p.inverse)

-- d = 0: D is 1
pub constant_reaches : (n : ℕ) → 1 ≤ n → (f g : List ℕ) (D : ℕ) → deg f ≡ 0 → IsUnit n (coef f (deg f)) → Reduced n f g D → D ≡ 1
constant_reaches zero l f g D h p r = absurd (omega arith)
constant_reaches (suc m) l f g D h p r =
    eq-one_of_dvd-one (only_any l r 1 (unit_constant m f g h (subst (λ (k : ℕ). IsUnit (suc m) (coef f k)) h p)))

-- S62: "D divides the resultant": where d + e is 1 or more no unit is needed
pub divides_first : (n : ℕ) → 1 ≤ n → (f g : List ℕ) (D : ℕ) → IsUnit n (coef f (deg f)) → Reduced n f g D → D ∣ resultant n f g
divides_first n l f g D p r = go (dec_le 1 (deg f +ℕ deg g))
  where
    go : Dec (1 ≤ deg f +ℕ deg g) → D ∣ resultant n f g
    go (yes h) = reduced_divides n l f g D h r
    go (no h) =
        subst (λ (z : ℕ). z ∣ resultant n f g) (sym (constant_reaches n l f g D (omega arith) p r)) (one-dvd (resultant n f g))

-- S62: "gcd(resultant, n) divides the d-th power of D": every common divisor c does
pub power_first : (n : ℕ) → 1 ≤ n → (f g : List ℕ) (D : ℕ) → IsUnit n (coef f (deg f)) → Reduced n f g D
    → (c : ℕ) → c ∣ resultant n f g → c ∣ n → c ∣ D ^ deg f
power_first zero l f g D p r c h k = absurd (omega arith)
power_first (suc m) l f g D p r c h k =
    let Y = power_of_reached m f g D p (all_any l r D (dvd_refl D)) in
    (dvd-mod_iff c {m = D ^ deg f} {n = suc m} k).0 (subst (λ (z : ℕ). c ∣ z) (sym Y.1)
    ((dvd-mod_iff c {m = Y.0 *ℕ resultant (suc m) f g} {n = suc m} k).1 (dvd_trans c h (dvd-mul_left (resultant (suc m) f g) Y.0))))

-- a divisor of n that divides x divides x with a sign
signed_dvd : (n c k x : ℕ) → 1 ≤ n → c ∣ n → c ∣ x → c ∣ signed n k x
signed_dvd n c zero x l h p = p
signed_dvd n c (suc k) x l h p = (dvd-mod_iff c {m = n - signed n k x} {n = n} h).1 (dvd-sub c h (signed_dvd n c k x l h p))

-- so what divides n and the resultant of f and g divides that of g and f
pub swapped_dvd : (n c : ℕ) (f g : List ℕ) → 1 ≤ n → c ∣ n → c ∣ resultant n f g → c ∣ resultant n g f
swapped_dvd zero c f g l h p = absurd (omega arith)
swapped_dvd (suc m) c f g l h p =
    subst (λ (z : ℕ). c ∣ z) (sym (resultant_swap m g f)) (signed_dvd (suc m) c (deg g *ℕ deg f) _ l h p)
