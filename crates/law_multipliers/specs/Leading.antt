-- Multipliers over any ring: b leads to x modulo h if b g + w h = x for some polynomial w. These are the steps of Euclid's algorithm
-- on a pair of polynomials, followed by the multipliers of g alone.
--
--   Leading 𝓡 h g b x     b g is x modulo h
--   h g                   the two polynomials that everything is a combination of; h is monic where it matters
--   a b                   multipliers of g
--   taken, scaled         a multiple of another multiplier is taken from one; a multiplier times c
--   exact                 what b leads to, less b g, divided by the monic h
use Rattle.std.specs.Prelude.{◌≡◌, refl, [], ◌∷◌, ℕ, suc}
use Rattle.std.proofs.Common.{sym, ◌∙◌, ap, ap₂}
use Rattle.std.proofs.Math.Path.{fun_ext}
use Rattle.law_algebra.specs.Normaliser.{by_ring, quote}
use Rattle.law_algebra.specs.Series.{Finite, fin_add, fin_mul, fin_neg, series, Short}
use Rattle.law_algebra.specs.Ring.{CRing, add_neg, add_zero}
use Rattle.law_algebra.specs.Division.{monic_rest}

module _ {R : Type 0} (𝓡 : CRing R) where
  open series 𝓡 use {add as ◌+◌, mul as ◌*◌, neg as -◌, nil as 𝟘, unit as 𝟙}

  infixl 65 ◌+◌
  infixl 70 ◌*◌
  infix 75 -◌
  -- b g is x modulo h
  pub record Leading (h g b x : ℕ → R) : Type 0 where
    pub w : ℕ → R
    pub fin_w : Finite 𝓡 w
    pub eq : w * h + b * g ≡ x

  -- a multiple of h is taken out of the multiplier, and a multiple of another multiplier
  pub taken : {h g a b z q a' x y : ℕ → R} → Finite 𝓡 g → Finite 𝓡 z → Finite 𝓡 q → z * h + q * b + a' ≡ a
      → Leading h g a x → Leading h g b y → Leading h g a' (x + (- (q * y)))
  taken {h} {g} {a} {b} {z} {q} {a'} G Z Q e l r = record {
    w = l.w + (- (q * r.w)) + z * g;
    fin_w = fin_add 𝓡 (fin_add 𝓡 l.fin_w (fin_neg 𝓡 (fin_mul 𝓡 Q r.fin_w))) (fin_mul 𝓡 Z G);
    eq = round l.w r.w h g b z q a'
        ∙ ap (λ (v : ℕ → R). l.w * h + v * g + (- (q * (r.w * h + b * g)))) e
        ∙ ap₂ (λ (u v : ℕ → R). u + (- (q * v))) l.eq r.eq;
  }
    where
      round : (u v h g b z q a' : ℕ → R)
          → (u + (- (q * v)) + z * g) * h + a' * g ≡ u * h + (z * h + q * b + a') * g + (- (q * (v * h + b * g)))
      round u v h g b z q a' = by_ring (series 𝓡) (u ∷ v ∷ h ∷ g ∷ b ∷ z ∷ q ∷ a' ∷ []) (search quote depth 20) (search quote depth 20) refl

  -- a multiplier times c leads to c times as much
  pub scaled : {h g b c x : ℕ → R} → Finite 𝓡 c → Leading h g b x → Leading h g (c * b) (c * x)
  scaled {h} {g} {b} {c} C l = record {
    w = c * l.w;
    fin_w = fin_mul 𝓡 C l.fin_w;
    eq = round l.w h g b c ∙ ap (λ (v : ℕ → R). c * v) l.eq;
  }
    where
      round : (u h g b c : ℕ → R) → c * u * h + c * b * g ≡ c * (u * h + b * g)
      round u h g b c = by_ring (series 𝓡) (u ∷ h ∷ g ∷ b ∷ c ∷ []) (search quote depth 20) (search quote depth 20) refl

  -- what b leads to, less b g, is an exact multiple of the monic h, whose quotient the division finds: its remainder is 0
  module _ (t : ℕ) {h g b x z r : ℕ → R} (monic : h t ≡ 𝓡.unit) (short_h : Short 𝓡 (suc t) h) (short_r : Short 𝓡 t r) (Z : Finite 𝓡 z)
      (l : Leading h g b x) (e : z * h + r + b * g ≡ x) where
    over : (k : ℕ) → 𝓡.add (((z + (- l.w)) * h) k) (r k) ≡ 𝓡.nil
    over k = ap (λ (v : ℕ → R). v k) (round z l.w h r b g ∙ ap₂ (λ (u v : ℕ → R). u + (- v)) e l.eq ∙ add_neg (series 𝓡) x)
      where
        round : (z w h r b g : ℕ → R) → (z + (- w)) * h + r ≡ z * h + r + b * g + (- (w * h + b * g))
        round z w h r b g = by_ring (series 𝓡) (z ∷ w ∷ h ∷ r ∷ b ∷ g ∷ []) (search quote depth 20) (search quote depth 20) refl

    pub exact_rest : (k : ℕ) → r k ≡ 𝓡.nil
    exact_rest = monic_rest 𝓡 D.size t (z + (- l.w)) h r D.short monic short_h short_r over
      where
        D : Finite 𝓡 (z + (- l.w))
        D = fin_add 𝓡 Z (fin_neg 𝓡 l.fin_w)

    pub exact : z * h + b * g ≡ x
    exact = ap (λ (v : ℕ → R). v + b * g) (sym (add_zero (series 𝓡) (z * h)) ∙ ap (λ (v : ℕ → R). z * h + v) (sym none)) ∙ e
      where
        none : r ≡ 𝟘
        none = fun_ext exact_rest
