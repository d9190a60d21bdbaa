-- Polynomials modulo n as lists of words: division by a polynomial whose top word is a unit exists and is unique, a unit polynomial has an
-- inverse, and what S15 to S17 determine is unique: quotient and remainder, unit and monic part, the inverse.
--
--   equal_words               lists of residues with one length are equal where their series are
--   Quotients                 a quotient and a remainder
--   division_exists, division_unique
--   unit_polynomial_inverse   a unit polynomial has an inverse
--   inverse_of_unique         its inverse in K d + 1 words is fixed
--   unit_times_monic_unique   degree, unit part and monic part are fixed
--
-- Letters: f is divided, or factored; g divides; q and r are quotient and remainder; u is a unit polynomial, h monic of degree t, w an
-- inverse; m is n less 1.
use Rattle.std.specs.Prelude.{◌≡◌, List, ℕ, zero, suc, ◌<◌, ◌≤◌, ◌%◌, ◌^◌, ◌+◌, ◌-◌, pos, length}
use Rattle.std.proofs.Common.{sym, ◌∙◌, ap, ap₂, mod-eq_of_lt, zero-lt-suc, arith, ext_get_or}
use Rattle.std.proofs.Math.Path.{fun_ext}
use native.Mathlib.Fin
use Rattle.std.proofs.Math.Decide.{dec_lt}
use Rattle.definitions.specs.Polynomials.{coef, deg, convolve, constant, Residues, Monic}
use Rattle.definitions.specs.Polynomials.{UnitPolynomial, Division, UnitTimesMonic, InverseOf}
use Rattle.definitions.specs.Residues.{IsUnit, IsNilpotent}
use Rattle.law_algebra.specs.Division.{Lead, Quotient, divide, divide_unique}
use Rattle.law_algebra.specs.Reduction.{reduce_hom}
use Rattle.law_algebra.specs.Residues.{Res, toRes, Res_ring}
use Rattle.law_algebra.specs.Series.{conv, Short, series}
use Rattle.law_algebra.specs.UnitTimesMonic.{Monic as MonicSeries, degree_unique, monic_unique, unit_unique}
use Rattle.law_algebra.specs.Units.{Nilpotent, Invertible, unit_polynomial, inverse_unique}
use Rattle.law_polynomials.specs.ReachedLaws.{words_short, words_finite, spell, words_spell, constant_is}
use Rattle.law_polynomials.specs.ReducedLaws.{InversePolynomial, inverse_is}
use Rattle.law_polynomials.specs.ResultantLaws.{power_is}
use Rattle.law_polynomials.specs.Words.{words, words_out, convolve_is, coef_tabulate, length_tabulate, divided_is, multiplied_is}

module _ (m : ℕ) where
  pub equal_words : (f g : List ℕ) → length f ≡ length g → Residues (suc m) f → Residues (suc m) g → ((k : ℕ) → words m f k ≡ words m g k)
      → f ≡ g
  equal_words f g l rf rg h =
      ext_get_or 0 f g l (λ k p. sym (mod-eq_of_lt (rf.at k p)) ∙ ap (λ (x : Res m). x.0) (h k) ∙ mod-eq_of_lt (rg.at k (omega arith)))

  spell_residues : (n : ℕ) (u : ℕ → Res m) → Residues (suc m) (spell m n u)
  spell_residues n u = record { at = λ k l. below k (omega (arith, length_tabulate n (λ k. (u k).0))) }
    where
      below : (k : ℕ) → k < n → coef (spell m n u) k < suc m
      below k l = let e = coef_tabulate n (λ k. (u k).0) k l in let b = (u k).1 in omega arith

  -- zero as a residue
  of_zero : (a : ℕ) → a % suc m ≡ 0 → toRes m a ≡ toRes m 0
  of_zero a h = Fin.val_path (h ∙ sym (mod-eq_of_lt (zero-lt-suc m)))

  unit_is : (a : ℕ) (U : IsUnit (suc m) a) → (Res_ring m).mul (toRes m a) (toRes m U.inverse) ≡ toRes m 1
  unit_is a U = sym ((reduce_hom m).h_mul (pos a) (pos U.inverse)) ∙ Fin.val_path U.is.one

  nilpotent_is : (a : ℕ) → IsNilpotent (suc m) a → Nilpotent (Res_ring m) (toRes m a)
  nilpotent_is a N = record { exponent = N.exponent; power = power_is m a N.exponent ∙ of_zero (a ^ N.exponent) N.power }

  lead_is : (g : List ℕ) (U : IsUnit (suc m) (coef g (deg g))) → Lead (Res_ring m) (deg g) (words m g) (toRes m U.inverse)
  lead_is g U = record { inverse = unit_is (coef g (deg g)) U; short = record { out = λ k l. words_out m g k l } }

  -- a division of words is one of series
  quotient_is : (f g q r : List ℕ) → Division (suc m) f g q r → Quotient (Res_ring m) (suc (deg f - deg g)) (deg g) (words m f) (words m g)
  quotient_is f g q r d = record {
    q = words m q;
    r = words m r;
    short_q = record { out = λ k l. (words_short m q).out k (omega (arith, d.length_q)) };
    short_r = record { out = λ k l. (words_short m r).out k (omega (arith, d.length_r)) };
    eq = λ k. ap (λ (x : ℕ → Res m). x k) (sym (divided_is m f g q r d.equation));
  }

-- a quotient and a remainder
pub record Quotients (n : ℕ) (f g : List ℕ) : Type 0 where
  pub q : List ℕ
  pub r : List ℕ
  pub is : Division n f g q r

-- S15: "Division by a polynomial whose top word is a unit: f = qg + r, r of e words (none for e = 0), q of d - e + 1 words, or one zero
-- word if d < e."
pub division_exists : (n : ℕ) → 1 ≤ n → (f g : List ℕ) → IsUnit n (coef g (deg g)) → Quotients n f g
division_exists zero l f g U = absurd (omega arith)
division_exists (suc m) l f g U = record { q = q; r = r; is = is }
  where
    d : Quotient (Res_ring m) (suc (deg f) - deg g) (deg g) (words m f) (words m g)
    d = divide (Res_ring m) (suc (deg f) - deg g) (deg g) (words m f) (words m g) (toRes m U.inverse)
        (record { out = λ k p. words_out m f k (omega arith) }) (lead_is m g U)

    short : Short (Res_ring m) (suc (deg f - deg g)) d.q
    short = record { out = λ k p. d.short_q.out k (omega arith) }

    q : List ℕ
    q = spell m (suc (deg f - deg g)) d.q

    r : List ℕ
    r = spell m (deg g) d.r

    at : (k : ℕ) → toRes m (convolve (coef q) (coef g) k + coef r k) ≡ words m f k
    at k =
        (reduce_hom m).h_add (pos (convolve (coef q) (coef g) k)) (pos (coef r k))
        ∙ ap₂ (Res_ring m).add
        (convolve_is m (coef q) (coef g) k ∙ ap (λ (u : ℕ → Res m). conv (Res_ring m) u (words m g) k)
        (fun_ext (words_spell m (suc (deg f - deg g)) d.q short)))
        (words_spell m (deg g) d.r d.short_r k)
        ∙ d.eq k

    is : Division (suc m) f g q r
    is = record {
      length_q = length_tabulate (suc (deg f - deg g)) (λ k. (d.q k).0);
      length_r = length_tabulate (deg g) (λ k. (d.r k).0);
      residues_q = spell_residues m (suc (deg f - deg g)) d.q;
      residues_r = spell_residues m (deg g) d.r;
      short = λ p. ap (λ (x : Res m). x.0) (d.short_q.out 0 (omega arith)) ∙ mod-eq_of_lt (zero-lt-suc m);
      equation = record { at = λ k. ap (λ (x : Res m). x.0) (at k) };
    }

pub division_unique : (n : ℕ) → 1 ≤ n → (f g q r q' r' : List ℕ) → IsUnit n (coef g (deg g)) → Division n f g q r → Division n f g q' r'
    → (q ≡ q') × (r ≡ r')
unfolding quotient_is
division_unique zero l f g q r q' r' U d d' = absurd (omega arith)
division_unique (suc m) l f g q r q' r' U d d' =
    let s = divide_unique (Res_ring m) (suc (deg f - deg g)) (deg g) (words m f) (words m g) (toRes m U.inverse) (lead_is m g U)
    (quotient_is m f g q r d) (quotient_is m f g q' r' d') in (
      equal_words m q q' (d.length_q ∙ sym d'.length_q) d.residues_q d'.residues_q s.same_q,
      equal_words m r r' (d.length_r ∙ sym d'.length_r) d.residues_r d'.residues_r s.same_r,
    )

module _ (m : ℕ) where
  invertible_is : (u : List ℕ) → UnitPolynomial (suc m) u → Invertible (Res_ring m) (words m u)
  invertible_is u U =
      unit_polynomial (Res_ring m) (length u) (words m u) (toRes m U.unit.inverse) (words_short m u) (unit_is m (coef u 0) U.unit)
      (λ k l. nilpotent_is m (coef u k) (U.nilpotent k l))

  monic_is : (t : ℕ) (h : List ℕ) → Monic (suc m) t h → MonicSeries (Res_ring m) t (words m h)
  monic_is t h M = record { lead = Fin.val_path M.lead; short = record { out = λ k l. of_zero m (coef h k) (M.above k l) } }

-- an inverse, of some length
pub record Inverses (n : ℕ) (u : List ℕ) : Type 0 where
  pub w : List ℕ
  pub is : InversePolynomial n u w

pub unit_polynomial_inverse : (n : ℕ) → 1 ≤ n → (u : List ℕ) → UnitPolynomial n u → Inverses n u
unit_polynomial_inverse zero l u U = absurd (omega arith)
unit_polynomial_inverse (suc m) l u U = record { w = w; is = record { at = λ k. ap (λ (x : Res m). x.0) (at k) } }
  where
    I : Invertible (Res_ring m) (words m u)
    I = invertible_is m u U

    w : List ℕ
    w = spell m I.finite.size I.w

    at : (k : ℕ) → toRes m (convolve (coef w) (coef u) k) ≡ toRes m (constant 1 k)
    at k =
        convolve_is m (coef w) (coef u) k
        ∙ ap (λ (x : ℕ → Res m). conv (Res_ring m) x (words m u) k) (fun_ext (words_spell m I.finite.size I.w I.finite.short))
        ∙ ap (λ (x : ℕ → Res m). x k) I.eq ∙ sym (constant_is m 1 k)

-- S16: "Its inverse fits in K times d, plus 1, words": whatever fits is one list
pub inverse_of_unique : (n : ℕ) → 1 ≤ n → (u w w' : List ℕ) → InverseOf n u w → InverseOf n u w' → w ≡ w'
inverse_of_unique zero l u w w' i i' = absurd (omega arith)
inverse_of_unique (suc m) l u w w' i i' =
    equal_words m w w' (i.length_w ∙ sym i'.length_w) i.residues_w i'.residues_w
    (λ k. ap (λ (x : ℕ → Res m). x k) (inverse_unique (series (Res_ring m)) (words m u) (words m w) (words m w')
    (inverse_is m u w (record { at = i.equation })) (inverse_is m u w' (record { at = i'.equation }))))

-- S17: "Both are fixed by this."
pub unit_times_monic_unique : (n : ℕ) → 2 ≤ n → (f : List ℕ) (t t' : ℕ) (u u' h h' : List ℕ) → UnitTimesMonic n f t u h
    → UnitTimesMonic n f t' u' h' → (t ≡ t') × ((u ≡ u') × (h ≡ h'))
unit_times_monic_unique zero l f t t' u u' h h' a b = absurd (omega arith)
unit_times_monic_unique (suc m) l f t t' u u' h h' a b = (
  same_t,
  (
    equal_words m u u' (a.length_u ∙ sym b.length_u) a.residues_u b.residues_u (λ k. ap (λ (x : ℕ → Res m). x k) same_u),
    equal_words m h h' (a.length_h ∙ sym b.length_h) a.residues_h b.residues_h (λ k. ap (λ (x : ℕ → Res m). x k) same_h),
  ),
)
  where
    eq : conv (Res_ring m) (words m u) (words m h) ≡ conv (Res_ring m) (words m u') (words m h')
    eq = sym (multiplied_is m f u h a.equation) ∙ multiplied_is m f u' h' b.equation

    apart : toRes m 1 ≡ toRes m 0 → ⊥
    apart z = absurd (omega (arith, sym (mod-eq_of_lt l) ∙ ap (λ (x : Res m). x.0) z ∙ mod-eq_of_lt (zero-lt-suc m)))

    same_t : t ≡ t'
    same_t = go (dec_lt t t') (dec_lt t' t)
      where
        go : Dec (t < t') → Dec (t' < t) → t ≡ t'
        go (yes p) q = absurd (apart (degree_unique (Res_ring m) (words m u) (words m u') (words m h) (words m h')
            (invertible_is m u a.unit) (words_finite m u') eq t t' (monic_is m t h a.monic) (monic_is m t' h' b.monic) p))
        go (no p) (yes q) = absurd (apart (degree_unique (Res_ring m) (words m u') (words m u) (words m h') (words m h)
            (invertible_is m u' b.unit) (words_finite m u) (sym eq) t' t (monic_is m t' h' b.monic) (monic_is m t h a.monic) q))
        go (no p) (no q) = omega arith

    monic : MonicSeries (Res_ring m) t (words m h')
    monic = rw same_t (monic_is m t' h' b.monic)

    same_h : words m h ≡ words m h'
    same_h = monic_unique (Res_ring m) (words m u) (words m u') (words m h) (words m h') (invertible_is m u a.unit)
        (words_finite m u') eq t (monic_is m t h a.monic) monic

    same_u : words m u ≡ words m u'
    same_u = unit_unique (Res_ring m) (words m u) (words m u') (words m h) (words m h') (invertible_is m u a.unit)
        (words_finite m u') eq t (monic_is m t h a.monic) monic
