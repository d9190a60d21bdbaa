-- A polynomial is a unit times a monic polynomial in one way at most, over a ring where 1 is not 0.
--
--   Monic t h          h is monic of degree t
--   degree_unique      u h = u' h' leaves no room for degrees t < t'
--   monic_unique       with one degree, h = h'
--   unit_unique        and u = u'
--
-- Letters: u, u' are polynomials with polynomials as inverses; h, h' are monic, of degrees t and t'.
use Rattle.std.specs.Prelude.{◌≡◌, [], ◌∷◌}
use Rattle.std.proofs.Math.Path.{refl, sym, ap, ap₂, fun_ext}
use Rattle.std.proofs.Common.{◌∙◌, arith}
use Prim.Native.Nat.{ℕ, suc, ◌<◌, ◌≤◌}
use Rattle.std.proofs.Math.Decide.{ℕ_discrete}
use Rattle.law_algebra.specs.Division.{monic_zero, monic_rest}
use Rattle.law_algebra.specs.Normaliser.{by_ring, quote}
use Rattle.law_algebra.specs.Ring.{CRing, add_neg, neg_neg, neg_zero}
use Rattle.law_algebra.specs.Series.{series, Short, Finite, fin_add, fin_mul, fin_neg, fin_const}
use Rattle.law_algebra.specs.Units.{Invertible, inverse_unique}

module _ {R : Type 0} (𝓡 : CRing R) where
  open series 𝓡 use {add as ◌+◌, mul as ◌*◌, neg as -◌, nil as 𝟘, unit as 𝟙, mul_comm}

  infixl 65 ◌+◌
  infixl 70 ◌*◌
  infix 75 -◌
  pub record Monic (t : ℕ) (h : ℕ → R) : Type 0 where
    pub lead : h t ≡ 𝓡.unit
    pub short : Short 𝓡 (suc t) h

  module _ (u u' h h' : ℕ → R) (U : Invertible 𝓡 u) (F' : Finite 𝓡 u') (eq : u * h ≡ u' * h') where
    ratio : ℕ → R
    ratio = U.w * u'

    fin_ratio : Finite 𝓡 ratio
    unfolding ratio
    fin_ratio = fin_mul 𝓡 U.finite F'

    -- h is the ratio of the units times h'
    times : ratio * h' ≡ h
    unfolding ratio
    times =
        round U.w u' h' ∙ ap (λ (x : ℕ → R). U.w * x) (sym eq) ∙ sym (round U.w u h) ∙ ap (λ (x : ℕ → R). x * h) U.eq
        ∙ (series 𝓡).one_mul h
      where
        round : (w u h : ℕ → R) → w * u * h ≡ w * (u * h)
        round w u h = (series 𝓡).mul_assoc w u h

    pub degree_unique : (t t' : ℕ) → Monic t h → Monic t' h' → t < t' → 𝓡.unit ≡ 𝓡.nil
    degree_unique t t' M M' l =
        sym M.lead ∙ sym (neg_neg 𝓡 (h t))
        ∙ ap 𝓡.neg (monic_rest 𝓡 fin_ratio.size t' ratio h' (- h) fin_ratio.short M'.lead M'.short short
        (λ k. ap (λ (x : ℕ → R). 𝓡.add (x k) (𝓡.neg (h k))) times ∙ add_neg 𝓡 (h k)) t)
        ∙ neg_zero 𝓡
      where
        short : Short 𝓡 t' (- h)
        short = record { out = λ k p. ap 𝓡.neg (M.short.out k (omega arith)) ∙ neg_zero 𝓡 }

    module _ (t : ℕ) (M : Monic t h) (M' : Monic t h') where
      rest : ℕ → R
      rest = h' + (- h)

      short_rest : Short 𝓡 t rest
      unfolding rest
      short_rest = record { out = λ k l. go k l (ℕ_discrete k t) }
        where
          go : (k : ℕ) → t ≤ k → Dec (k ≡ t) → 𝓡.add (h' k) (𝓡.neg (h k)) ≡ 𝓡.nil
          go k l (yes p) = ap₂ (λ x y. 𝓡.add x (𝓡.neg y)) (ap h' p ∙ M'.lead) (ap h p ∙ M.lead) ∙ add_neg 𝓡 𝓡.unit
          go k l (no p) = ap₂ (λ x y. 𝓡.add x (𝓡.neg y)) (M'.short.out k (omega arith)) (M.short.out k (omega arith))
              ∙ add_neg 𝓡 𝓡.nil

      none : (k : ℕ) → ((ratio + (- 𝟙)) * h' + rest) k ≡ 𝓡.nil
      unfolding rest
      none k = ap (λ (x : ℕ → R). x k) (round ratio h' h ∙ ap (λ (x : ℕ → R). x + (- h)) times ∙ add_neg (series 𝓡) h)
        where
          round : (w a b : ℕ → R) → (w + (- 𝟙)) * a + (a + (- b)) ≡ w * a + (- b)
          round w a b = by_ring (series 𝓡) (w ∷ a ∷ b ∷ []) (search quote depth 20) (search quote depth 20) refl

      fin_less : Finite 𝓡 (ratio + (- 𝟙))
      fin_less = fin_add 𝓡 fin_ratio (fin_neg 𝓡 (fin_const 𝓡 𝓡.unit))

      -- x - y = 0
      equal : (x y : ℕ → R) → x + (- y) ≡ 𝟘 → x ≡ y
      equal x y z = apart x y ∙ ap (λ (w : ℕ → R). w + y) z ∙ (series 𝓡).zero_add y
        where
          apart : (x y : ℕ → R) → x ≡ x + (- y) + y
          apart x y = by_ring (series 𝓡) (x ∷ y ∷ []) (search quote depth 20) (search quote depth 20) refl

      pub monic_unique : h ≡ h'
      unfolding rest
      monic_unique = sym (equal h' h (fun_ext (monic_rest 𝓡 fin_less.size t (ratio + (- 𝟙)) h' rest fin_less.short M'.lead
          M'.short short_rest none)))

      pub unit_unique : u ≡ u'
      unfolding ratio
      unit_unique =
          inverse_unique (series 𝓡) U.w u u' (mul_comm u U.w ∙ U.eq)
          (mul_comm u' U.w ∙ equal ratio 𝟙 (fun_ext (monic_zero 𝓡 fin_less.size t (ratio + (- 𝟙)) h' rest fin_less.short M'.lead
          M'.short short_rest none)))
