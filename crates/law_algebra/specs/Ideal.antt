-- The combinations u f + v g of two polynomials over a ring, and what keeps them: a factor, a unit factor, a multiple of f added to g.
--
--   Combines f g w            w is u f + v g for some polynomials u and v
--   of_left, of_right, of_both    between (f g, h), (f, h) and (g, h)
--   unit_in, unit_out         f times a unit (D2)
--   rest_in, rest_out         g less a multiple of f (D3)
--   multiple                  multiples of what is reached
--   grounded                  multiples of a monic polynomial of degree 1 or more combine to no constant but 0
--
-- Letters: f, g, h, q, r, u, v, w are series, the constant first.
use Rattle.std.specs.Prelude.{◌≡◌, refl, [], ◌∷◌, ℕ, zero, suc, ◌≤◌}
use Rattle.std.proofs.Common.{sym, ◌∙◌, ap, ap₂, arith}
use Rattle.law_algebra.specs.Division.{monic_rest}
use Rattle.law_algebra.specs.Normaliser.{quote, by_ring}
use Rattle.law_algebra.specs.Ring.{CRing, add_neg, neg_neg, neg_zero}
use Rattle.law_algebra.specs.Series.{series, Short, const, Finite, fin_add, fin_mul, fin_neg}

module _ {R : Type 0} (𝓡 : CRing R) where
  open series 𝓡 use {add as ◌+◌, mul as ◌*◌, neg as -◌, unit as 𝟙}

  infixl 65 ◌+◌
  infixl 70 ◌*◌
  infix 75 -◌
  -- w is u f + v g for some polynomials u and v
  pub record Combines (f g w : ℕ → R) : Type 0 where
    pub u : ℕ → R
    pub v : ℕ → R
    pub fin_u : Finite 𝓡 u
    pub fin_v : Finite 𝓡 v
    pub eq : u * f + v * g ≡ w

  -- what f g and h combine to, f and h do, and g and h
  pub of_left : {f g h w : ℕ → R} → Finite 𝓡 g → Combines (f * g) h w → Combines f h w
  of_left {f} {g} {h} G c = record {
    u = c.u * g;
    v = c.v;
    fin_u = fin_mul 𝓡 c.fin_u G;
    fin_v = c.fin_v;
    eq = round c.u c.v f g h ∙ c.eq;
  }
    where
      round : (u v f g h : ℕ → R) → u * g * f + v * h ≡ u * (f * g) + v * h
      round u v f g h = by_ring (series 𝓡) (u ∷ v ∷ f ∷ g ∷ h ∷ []) (search quote depth 20) (search quote depth 20) refl

  pub of_right : {f g h w : ℕ → R} → Finite 𝓡 f → Combines (f * g) h w → Combines g h w
  of_right {f} {g} {h} F c = record {
    u = c.u * f;
    v = c.v;
    fin_u = fin_mul 𝓡 c.fin_u F;
    fin_v = c.fin_v;
    eq = round c.u c.v f g h ∙ c.eq;
  }
    where
      round : (u v f g h : ℕ → R) → u * f * g + v * h ≡ u * (f * g) + v * h
      round u v f g h = by_ring (series 𝓡) (u ∷ v ∷ f ∷ g ∷ h ∷ []) (search quote depth 20) (search quote depth 20) refl

  pub of_both : {f g h a b : ℕ → R} → Finite 𝓡 f → Finite 𝓡 g → Finite 𝓡 h → Combines f h a → Combines g h b → Combines (f * g) h (a * b)
  of_both {f} {g} {h} F G H c d = record {
    u = c.u * d.u;
    v = c.u * f * d.v + c.v * d.u * g + c.v * d.v * h;
    fin_u = fin_mul 𝓡 c.fin_u d.fin_u;
    fin_v = fin_add 𝓡 (fin_add 𝓡 (fin_mul 𝓡 (fin_mul 𝓡 c.fin_u F) d.fin_v) (fin_mul 𝓡 (fin_mul 𝓡 c.fin_v d.fin_u) G))
        (fin_mul 𝓡 (fin_mul 𝓡 c.fin_v d.fin_v) H);
    eq = round c.u c.v d.u d.v f g h ∙ ap₂ ◌*◌ c.eq d.eq;
  }
    where
      round : (u v a b f g h : ℕ → R) → u * a * (f * g) + (u * f * b + v * a * g + v * b * h) * h ≡ (u * f + v * h) * (a * g + b * h)
      round u v a b f g h = by_ring (series 𝓡) (u ∷ v ∷ f ∷ g ∷ h ∷ a ∷ b ∷ []) (search quote depth 20) (search quote depth 20) refl

  pub exchange : {f g w : ℕ → R} → Combines f g w → Combines g f w
  exchange {f} {g} c = record {
    u = c.v;
    v = c.u;
    fin_u = c.fin_v;
    fin_v = c.fin_u;
    eq = (series 𝓡).add_comm (c.v * g) (c.u * f)
        ∙ c.eq;
  }

  -- D2: a unit factor, i * a = 1
  pub unit_in : {a i f g w : ℕ → R} → Finite 𝓡 i → i * a ≡ 𝟙 → Combines f g w → Combines (a * f) g w
  unit_in {a} {i} {f} {g} I h c = record {
    u = c.u * i;
    v = c.v;
    fin_u = fin_mul 𝓡 c.fin_u I;
    fin_v = c.fin_v;
    eq = round c.u c.v a i f g ∙ ap (λ (x : ℕ → R). c.u * (x * f) + c.v * g) h
        ∙ ap (λ (x : ℕ → R). c.u * x + c.v * g) ((series 𝓡).one_mul f) ∙ c.eq;
  }
    where
      round : (u v a i f g : ℕ → R) → u * i * (a * f) + v * g ≡ u * (i * a * f) + v * g
      round u v a i f g = by_ring (series 𝓡) (u ∷ v ∷ a ∷ i ∷ f ∷ g ∷ []) (search quote depth 20) (search quote depth 20) refl

  pub unit_out : {a f g w : ℕ → R} → Finite 𝓡 a → Combines (a * f) g w → Combines f g w
  unit_out A c = of_right A c

  -- D3: g = q f + r
  pub rest_in : {f q r w : ℕ → R} → Finite 𝓡 q → Combines f r w → Combines f (q * f + r) w
  rest_in {f} {q} {r} Q c = record {
    u = c.u + (- (c.v * q));
    v = c.v;
    fin_u = fin_add 𝓡 c.fin_u (fin_neg 𝓡 (fin_mul 𝓡 c.fin_v Q));
    fin_v = c.fin_v;
    eq = round c.u c.v f q r ∙ c.eq;
  }
    where
      round : (u v f q r : ℕ → R) → (u + (- (v * q))) * f + v * (q * f + r) ≡ u * f + v * r
      round u v f q r = by_ring (series 𝓡) (u ∷ v ∷ f ∷ q ∷ r ∷ []) (search quote depth 20) (search quote depth 20) refl

  pub rest_out : {f q r w : ℕ → R} → Finite 𝓡 q → Combines f (q * f + r) w → Combines f r w
  rest_out {f} {q} {r} Q c = record {
    u = c.u + c.v * q;
    v = c.v;
    fin_u = fin_add 𝓡 c.fin_u (fin_mul 𝓡 c.fin_v Q);
    fin_v = c.fin_v;
    eq = round c.u c.v f q r ∙ c.eq;
  }
    where
      round : (u v f q r : ℕ → R) → (u + v * q) * f + v * r ≡ u * f + v * (q * f + r)
      round u v f q r = by_ring (series 𝓡) (u ∷ v ∷ f ∷ q ∷ r ∷ []) (search quote depth 20) (search quote depth 20) refl

  -- multiples of what is reached
  pub multiple : {f g w : ℕ → R} (j : ℕ → R) → Finite 𝓡 j → Combines f g w → Combines f g (j * w)
  multiple {f} {g} j J c = record {
    u = j * c.u;
    v = j * c.v;
    fin_u = fin_mul 𝓡 J c.fin_u;
    fin_v = fin_mul 𝓡 J c.fin_v;
    eq = round j c.u c.v f g ∙ ap (λ (x : ℕ → R). j * x) c.eq;
  }
    where
      round : (j u v f g : ℕ → R) → j * u * f + j * v * g ≡ j * (u * f + v * g)
      round j u v f g = by_ring (series 𝓡) (j ∷ u ∷ v ∷ f ∷ g ∷ []) (search quote depth 20) (search quote depth 20) refl

  -- multiples of a monic polynomial of degree t ≥ 1 reach no constant but 0
  pub grounded : (t : ℕ) (w a b : ℕ → R) (c : R) → 1 ≤ t → w t ≡ 𝓡.unit → Short 𝓡 (suc t) w → Finite 𝓡 a → Finite 𝓡 b
      → Combines (w * a) (w * b) (const 𝓡 c) → c ≡ 𝓡.nil
  grounded t w a b c l top short A B x =
      sym (neg_neg 𝓡 c) ∙ ap 𝓡.neg (monic_rest 𝓡 Q.size t q w rest Q.short top short short_rest eq 0) ∙ neg_zero 𝓡
    where
      q : ℕ → R
      q = x.u * a + x.v * b

      Q : Finite 𝓡 q
      Q = fin_add 𝓡 (fin_mul 𝓡 x.fin_u A) (fin_mul 𝓡 x.fin_v B)

      rest : ℕ → R
      rest = const 𝓡 (𝓡.neg c)

      short_rest : Short 𝓡 t rest
      short_rest = record { out = go }
        where
          go : (k : ℕ) → t ≤ k → rest k ≡ 𝓡.nil
          go zero h = absurd (omega arith)
          go (suc k) h = refl

      round : (u v w a b : ℕ → R) → (u * a + v * b) * w ≡ u * (w * a) + v * (w * b)
      round u v w a b = by_ring (series 𝓡) (u ∷ v ∷ w ∷ a ∷ b ∷ []) (search quote depth 20) (search quote depth 20) refl

      eq : (k : ℕ) → 𝓡.add ((q * w) k) (rest k) ≡ 𝓡.nil
      eq k = ap (λ (z : ℕ → R). 𝓡.add (z k) (rest k)) (round x.u x.v w a b ∙ x.eq) ∙ cancel k
        where
          cancel : (k : ℕ) → 𝓡.add (const 𝓡 c k) (rest k) ≡ 𝓡.nil
          cancel zero = add_neg 𝓡 c
          cancel (suc k) = 𝓡.zero_add 𝓡.nil
