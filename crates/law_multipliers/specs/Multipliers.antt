-- Multipliers of words modulo n. The reduced run follows Euclid's algorithm on h, which is monic, and g; of each polynomial x that it
-- meets it keeps b with b g = m x modulo h and n, where m ν = n and x is known modulo ν alone.
--
--   HasMultiplier n m h g b x    b g is m x modulo h and n
--   Completes n h g b c          b g is the constant c modulo h and n
--   Taken n h b q a a'           a' is a less q b and less a multiple of h
--   NegatedInverse n u j         j u is -1
--   multiplier_first, multiplier_second    0 leads to h, and 1 to what g leaves on division by h
--   multiplier_taken, multiplier_unit, multiplier_scaled    a step of Euclid's algorithm; over a unit; times a constant
--   multiplier_completes, multiplier_unity, completes_none, completes_same    what completes, and to what
--   completed               both multipliers of c, from that of g
--   inverse_of_negated      the inverse itself
--
-- Letters: p is n less 1; m and ν have the product n; z, w are multipliers of h; q and r are quotient and remainder.
use Rattle.std.specs.Prelude.{◌≡◌, refl, List, [], ◌∷◌, ℕ, zero, suc, ◌≤◌, ◌%◌, ◌+◌ as ◌+ℕ◌, ◌*◌ as ◌*ℕ◌, pos}
use Rattle.std.proofs.Common.{sym, ◌∙◌, ap, ap₂, subst, mul-pos, mul-one, arith}
use Rattle.std.proofs.Math.Path.{fun_ext}
use Rattle.std.proofs.Math.Nat.{zero-mod}
use native.Mathlib.Fin
use Rattle.definitions.specs.Polynomials.{coef, convolve, constant, Multiplied, Divided, Monic}
use Rattle.definitions.specs.Resultants.{Combination}
use Rattle.law_algebra.specs.Normaliser.{by_ring, quote}
use Rattle.law_algebra.specs.Reduction.{reduce_hom}
use Rattle.law_algebra.specs.Series.{Finite, fin_neg, series, const, conv_const}
use Rattle.law_algebra.specs.Residues.{Res, toRes, Res_ring}
use Rattle.law_algebra.specs.Ring.{add_zero, mul_zero, zero_mul}
use Rattle.law_polynomials.specs.ReachedLaws.{words_finite, spell, words_spell}
use Rattle.law_polynomials.specs.ReachedSteps.{lift_mod, constant_scale}
use Rattle.law_polynomials.specs.ReducedLaws.{InversePolynomial}
use Rattle.law_polynomials.specs.Words.{words, convolve_is, multiplied_is, divided_is}
use Rattle.law_multipliers.specs.Leading.{Leading, taken, scaled, exact}

-- b g is m x modulo h and n
pub record HasMultiplier (n m : ℕ) (h g b x : List ℕ) : Type 0 where
  pub w : List ℕ
  pub at : (k : ℕ) → (convolve (coef w) (coef h) k +ℕ convolve (coef b) (coef g) k) % n ≡ (m *ℕ coef x k) % n

-- b g is the constant c modulo h and n
pub record Completes (n : ℕ) (h g b : List ℕ) (c : ℕ) : Type 0 where
  pub w : List ℕ
  pub combination : Combination n h g w b c

-- a is q b + a' and a multiple of h
pub record Taken (n : ℕ) (h b q a a' : List ℕ) : Type 0 where
  pub z : List ℕ
  pub at : (k : ℕ) → (convolve (coef z) (coef h) k +ℕ convolve (coef q) (coef b) k +ℕ coef a' k) % n ≡ coef a k % n

-- j u is -1
pub record NegatedInverse (n : ℕ) (u j : List ℕ) : Type 0 where
  pub at : (k : ℕ) → (convolve (coef j) (coef u) k +ℕ constant 1 k) % n ≡ 0

-- the modulus n is m ν: what is equal modulo ν is equal modulo n once it is multiplied by m
pub lifted : (n m ν s t : ℕ) → 1 ≤ m → 1 ≤ ν → n ≡ m *ℕ ν → s % ν ≡ t % ν → (m *ℕ s) % n ≡ (m *ℕ t) % n
lifted n m ν s t p q e h = ap (λ (x : ℕ). (m *ℕ s) % x) e ∙ lift_mod m ν s t p q h ∙ ap (λ (x : ℕ). (m *ℕ t) % x) (sym e)

-- ---- from words to the ring of residues and back

module _ (p : ℕ) where
  open series (Res_ring p) use {add as ◌+◌, mul as ◌*◌, neg as -◌, nil as 𝟘, unit as 𝟙}

  infixl 65 ◌+◌
  infixl 70 ◌*◌
  infix 75 -◌
  -- numbers as residues
  abbrev residues : (ℕ → ℕ) → ℕ → Res p
  residues F k = toRes p (F k)

  scaled_is : (m : ℕ) (F : ℕ → ℕ) → residues (λ k. m *ℕ F k) ≡ const (Res_ring p) (toRes p m) * residues F
  scaled_is m F = fun_ext (λ k. (reduce_hom p).h_mul (pos m) (pos (F k)) ∙ sym (conv_const (Res_ring p) (toRes p m) (residues F) k))

  added_is : (F G : ℕ → ℕ) → residues (λ k. F k +ℕ G k) ≡ residues F + residues G
  added_is F G = fun_ext (λ k. (reduce_hom p).h_add (pos (F k)) (pos (G k)))

  product_is : (a b : List ℕ) → residues (convolve (coef a) (coef b)) ≡ words p a * words p b
  product_is a b = fun_ext (convolve_is p (coef a) (coef b))

  -- equal words modulo suc p
  same : (F G : ℕ → ℕ) → ((k : ℕ) → F k % suc p ≡ G k % suc p) → residues F ≡ residues G
  same F G h = fun_ext (λ k. Fin.val_path (h k))

  one_is : residues (constant 1) ≡ 𝟙
  one_is = fun_ext (elim [ zero ↦ refl | suc k ↦ refl ])

  constant_is : (c : ℕ) → residues (constant c) ≡ const (Res_ring p) (toRes p c)
  constant_is c = fun_ext (elim [ zero ↦ refl | suc k ↦ refl ])

  back : (F G : ℕ → ℕ) → residues F ≡ residues G → (k : ℕ) → F k % suc p ≡ G k % suc p
  back F G h k = ap (λ (v : ℕ → Res p). (v k).0) h

  both_is : (u f v g : List ℕ)
      → residues (λ k. convolve (coef u) (coef f) k +ℕ convolve (coef v) (coef g) k) ≡ words p u * words p f + words p v * words p g
  both_is u f v g = added_is (convolve (coef u) (coef f)) (convolve (coef v) (coef g)) ∙ ap₂ ◌+◌ (product_is u f) (product_is v g)

  abbrev times : ℕ → (ℕ → Res p) → ℕ → Res p
  times m X = const (Res_ring p) (toRes p m) * X

  -- m times what agrees modulo ν
  lifted_is : (m ν : ℕ) → 1 ≤ m → 1 ≤ ν → suc p ≡ m *ℕ ν → (F G : ℕ → ℕ) → ((k : ℕ) → F k % ν ≡ G k % ν)
      → times m (residues F) ≡ times m (residues G)
  lifted_is m ν p_m p_ν e F G h =
      sym (scaled_is m F)
      ∙ same (λ k. m *ℕ F k) (λ k. m *ℕ G k) (λ k. lifted (suc p) m ν (F k) (G k) p_m p_ν e (h k))
      ∙ scaled_is m G

  zero_is : (a : List ℕ) → ((k : ℕ) → coef a k ≡ 0) → words p a ≡ 𝟘
  zero_is a z = fun_ext (λ k. ap (toRes p) (z k))

  -- j u + 1
  negation_is : (j u : List ℕ) → residues (λ k. convolve (coef j) (coef u) k +ℕ constant 1 k) ≡ words p j * words p u + 𝟙
  negation_is j u = added_is (convolve (coef j) (coef u)) (constant 1) ∙ ap₂ ◌+◌ (product_is j u) one_is

  negated_is : (u j : List ℕ) → NegatedInverse (suc p) u j → words p j * words p u + 𝟙 ≡ 𝟘
  negated_is u j n = sym (negation_is j u) ∙ same _ (λ k. 0) (λ k. n.at k ∙ sym (zero-mod (suc p)))

  -- a multiplier in the ring
  abbrev Ring_has_multiplier : List ℕ → List ℕ → List ℕ → (ℕ → Res p) → Type 0
  Ring_has_multiplier h g b x = Leading (Res_ring p) (words p h) (words p g) (words p b) x

  into : {m : ℕ} {h g b x : List ℕ} → HasMultiplier (suc p) m h g b x → Ring_has_multiplier h g b (times m (words p x))
  into {m} {h} {g} {b} {x} l = record {
    w = words p l.w;
    fin_w = words_finite p l.w;
    eq = sym (both_is l.w h b g) ∙ same _ _ l.at ∙ scaled_is m (coef x);
  }

  out_at : (h g b : List ℕ) {X : ℕ → Res p} (F : ℕ → ℕ) (l : Ring_has_multiplier h g b X) → residues F ≡ X
      → (k : ℕ) → (convolve (coef (spell p l.fin_w.size l.w)) (coef h) k +ℕ convolve (coef b) (coef g) k) % suc p ≡ F k % suc p
  out_at h g b F l e = back _ F
      (both_is (spell p l.fin_w.size l.w) h b g
      ∙ ap (λ (v : ℕ → Res p). v * words p h + words p b * words p g) (fun_ext (words_spell p l.fin_w.size l.w l.fin_w.short))
      ∙ l.eq ∙ sym e)

  out : (h g b : List ℕ) {X : ℕ → Res p} (m : ℕ) (x : List ℕ) → Ring_has_multiplier h g b X → times m (words p x) ≡ X
      → HasMultiplier (suc p) m h g b x
  out h g b m x l e = record { w = spell p l.fin_w.size l.w; at = out_at h g b (λ k. m *ℕ coef x k) l (scaled_is m (coef x) ∙ e) }

  done : (h g b : List ℕ) {X : ℕ → Res p} (c : ℕ) → Ring_has_multiplier h g b X → const (Res_ring p) (toRes p c) ≡ X
      → Completes (suc p) h g b c
  done h g b c l e = record {
    w = spell p l.fin_w.size l.w;
    combination = record { sum = out_at h g b (constant c) l (constant_is c ∙ e) };
  }

  undone : {h g b : List ℕ} {c : ℕ} → Completes (suc p) h g b c → Ring_has_multiplier h g b (const (Res_ring p) (toRes p c))
  undone {h} {g} {b} {c} l = record {
    w = words p l.w;
    fin_w = words_finite p l.w;
    eq = sym (both_is l.w h b g) ∙ same _ _ l.combination.sum ∙ constant_is c;
  }

  -- 0 leads to 0
  zero_multiplier : (h g a : List ℕ) → ((k : ℕ) → coef a k ≡ 0) → Ring_has_multiplier h g a 𝟘
  zero_multiplier h g a z = record {
    w = 𝟘;
    fin_w = record { size = 0; short = record { out = λ k _. refl } };
    eq = ap (λ (v : ℕ → Res p). 𝟘 * words p h + v * words p g) (zero_is a z)
        ∙ ap₂ ◌+◌ (zero_mul (series (Res_ring p)) (words p h)) (zero_mul (series (Res_ring p)) (words p g))
        ∙ add_zero (series (Res_ring p)) 𝟘;
  }

  taken_is : {h b q a a' : List ℕ} (t : Taken (suc p) h b q a a')
      → words p t.z * words p h + words p q * words p b + words p a' ≡ words p a
  taken_is {h} {b} {q} {a} {a'} t =
      sym (added_is _ (coef a') ∙ ap (λ (v : ℕ → Res p). v + words p a') (both_is t.z h q b)) ∙ same _ _ t.at

  -- ---- the steps

  -- x = q y + r modulo ν, and q b is taken from a
  step_taken : (m ν : ℕ) → 1 ≤ m → 1 ≤ ν → suc p ≡ m *ℕ ν → (h g a b a' q x y r : List ℕ) → Taken (suc p) h b q a a' → Divided ν x y q r
      → HasMultiplier (suc p) m h g a x → HasMultiplier (suc p) m h g b y → HasMultiplier (suc p) m h g a' r
  step_taken m ν p_m p_ν e h g a b a' q x y r t d la lb =
      out h g a' m r (taken (Res_ring p) (words_finite p g) (words_finite p t.z) (words_finite p q) (taken_is t) (into la) (into lb))
      (round M (words p q) (words p y) (words p r) ∙ ap (λ (v : ℕ → Res p). v + (- (words p q * (M * words p y)))) (sym whole))
    where
      M : ℕ → Res p
      M = const (Res_ring p) (toRes p m)

      whole : M * words p x ≡ M * (words p q * words p y + words p r)
      whole =
          lifted_is m ν p_m p_ν e (coef x) (λ k. convolve (coef q) (coef y) k +ℕ coef r k) (λ k. sym (d.at k))
          ∙ ap (λ (v : ℕ → Res p). M * v) (added_is (convolve (coef q) (coef y)) (coef r))
          ∙ ap (λ (v : ℕ → Res p). M * (v + words p r)) (product_is q y)

      round : (m q y r : ℕ → Res p) → m * r ≡ m * (q * y + r) + (- (q * (m * y)))
      round m q y r = by_ring (series (Res_ring p)) (m ∷ q ∷ y ∷ r ∷ []) (search quote depth 20) (search quote depth 20) refl

  -- y = u x modulo ν, j u = -1, and j b is taken from 0
  step_unit : (m ν : ℕ) → 1 ≤ m → 1 ≤ ν → suc p ≡ m *ℕ ν → (h g a b b' j u x y : List ℕ) → ((k : ℕ) → coef a k ≡ 0)
      → Taken (suc p) h b j a b' → Multiplied ν y u x → NegatedInverse ν u j → HasMultiplier (suc p) m h g b y
      → HasMultiplier (suc p) m h g b' x
  step_unit m ν p_m p_ν e h g a b b' j u x y z t f i l =
      out h g b' m x
      (taken (Res_ring p) (words_finite p g) (words_finite p t.z) (words_finite p j) (taken_is t) (zero_multiplier h g a z) (into l))
      (round M J U X (sum ∙ sym (zero_mul (series (Res_ring p)) X)) ∙ ap (λ (v : ℕ → Res p). 𝟘 + (- (J * v))) (sym factored))
    where
      M : ℕ → Res p
      M = const (Res_ring p) (toRes p m)

      J : ℕ → Res p
      J = words p j

      U : ℕ → Res p
      U = words p u

      X : ℕ → Res p
      X = words p x

      factored : M * words p y ≡ M * (U * X)
      factored =
          lifted_is m ν p_m p_ν e (coef y) (convolve (coef u) (coef x)) f.at
          ∙ ap (λ (v : ℕ → Res p). M * v) (product_is u x)

      none : M * (J * U + 𝟙) ≡ 𝟘
      none =
          ap (λ (v : ℕ → Res p). M * v) (sym (negation_is j u))
          ∙ lifted_is m ν p_m p_ν e _ (λ k. 0) (λ k. i.at k ∙ sym (zero-mod ν))
          ∙ mul_zero (series (Res_ring p)) M

      sum : (M * (J * U + 𝟙)) * X ≡ 𝟘
      sum = ap (λ (v : ℕ → Res p). v * X) none ∙ zero_mul (series (Res_ring p)) X

      round : (m j u x : ℕ → Res p) → (m * (j * u + 𝟙)) * x ≡ 𝟘 * x → m * x ≡ 𝟘 + (- (j * (m * (u * x))))
      round m j u x h = first m j u x ∙ ap (λ (v : ℕ → Res p). v + (- (j * (m * (u * x))))) (h ∙ zero_mul (series (Res_ring p)) x)
        where
          first : (m j u x : ℕ → Res p) → m * x ≡ (m * (j * u + 𝟙)) * x + (- (j * (m * (u * x))))
          first m j u x = by_ring (series (Res_ring p)) (m ∷ j ∷ u ∷ x ∷ []) (search quote depth 20) (search quote depth 20) refl

  -- the multiplier times c
  step_scaled : (c m m' : ℕ) (h g b b' x x' : List ℕ) → ((k : ℕ) → coef b' k % suc p ≡ (c *ℕ coef b k) % suc p)
      → ((k : ℕ) → (m' *ℕ coef x' k) % suc p ≡ (c *ℕ (m *ℕ coef x k)) % suc p) → HasMultiplier (suc p) m h g b x
      → HasMultiplier (suc p) m' h g b' x'
  step_scaled c m m' h g b b' x x' eb ex l =
      out h g b' m' x' (record {
        w = r.w;
        fin_w = r.fin_w;
        eq = ap (λ (v : ℕ → Res p). r.w * words p h + v * words p g) (same _ _ eb ∙ scaled_is c (coef b)) ∙ r.eq;
      })
      (sym (scaled_is m' (coef x'))
      ∙ same _ _ ex
      ∙ scaled_is c (λ k. m *ℕ coef x k)
      ∙ ap (λ (v : ℕ → Res p). const (Res_ring p) (toRes p c) * v) (scaled_is m (coef x)))
    where
      C : Finite (Res_ring p) (const (Res_ring p) (toRes p c))
      C = record { size = 1; short = record { out = elim [ zero ↦ λ l. absurd (omega arith) | suc k ↦ λ l. refl ] } }

      r : Leading (Res_ring p) (words p h) (words p g) (times c (words p b)) (times c (times m (words p x)))
      r = scaled (Res_ring p) C (into l)

  -- ---- the beginning and the end

  -- 0 leads to h
  step_first : (h g a : List ℕ) → ((k : ℕ) → coef a k ≡ 0) → HasMultiplier (suc p) 1 h g a h
  step_first h g a z =
      out h g a 1 h (record {
        w = 𝟙;
        fin_w = record { size = 1; short = record { out = elim [ zero ↦ λ l. absurd (omega arith) | suc k ↦ λ l. refl ] } };
        eq = refl;
      }) (round (words p h) (words p g) ∙ ap (λ (v : ℕ → Res p). 𝟙 * words p h + v * words p g) (sym (zero_is a z)))
    where
      round : (h g : ℕ → Res p) → 𝟙 * h ≡ 𝟙 * h + 𝟘 * g
      round h g = by_ring (series (Res_ring p)) (h ∷ g ∷ []) (search quote depth 20) (search quote depth 20) refl

  -- 1 leads to what g leaves on division by h
  step_second : (h g b q y : List ℕ) → ((k : ℕ) → coef b k ≡ constant 1 k) → Divided (suc p) g h q y → HasMultiplier (suc p) 1 h g b y
  step_second h g b q y o d =
      out h g b 1 y (record { w = - words p q; fin_w = fin_neg (Res_ring p) (words_finite p q); eq = refl })
      (round (words p h) (words p q) (words p y)
      ∙ ap₂ (λ (u v : ℕ → Res p). (- words p q) * words p h + u * v) (sym one) (sym (divided_is p g h q y d)))
    where
      one : words p b ≡ 𝟙
      one = fun_ext (λ k. ap (toRes p) (o k)) ∙ one_is

      round : (h q y : ℕ → Res p) → 𝟙 * y ≡ (- q) * h + 𝟙 * (q * h + y)
      round h q y = by_ring (series (Res_ring p)) (h ∷ q ∷ y ∷ []) (search quote depth 20) (search quote depth 20) refl

  -- b completes to c: the quotient z of c - b g by the monic h is exact, f is u h, and x is z over u
  step_last : (t c : ℕ) (f g h u j b e z r x o s : List ℕ) → Monic (suc p) t h → Completes (suc p) h g b c
      → ((k : ℕ) → coef s k % suc p ≡ constant c k % suc p) → Divided (suc p) s g b e
      → Divided (suc p) e h z r → ((k : ℕ) → t ≤ k → coef r k ≡ 0)
      → Multiplied (suc p) f u h → NegatedInverse (suc p) u j
      → ((k : ℕ) → coef o k ≡ 0) → Divided (suc p) o z j x
      → Combination (suc p) f g x b c
  step_last t c f g h u j b e z r x o s m l is_c de dz short mf nj none dx = record {
    sum = back _ (constant c)
        (both_is x f b g
        ∙ ap (λ (v : ℕ → Res p). X * v + B * G) (multiplied_is p f u h mf)
        ∙ first J U Z X H
        ∙ ap (λ (v : ℕ → Res p). v + B * G) middle
        ∙ ex
        ∙ sym (constant_is c));
  }
    where
      H : ℕ → Res p
      H = words p h

      G : ℕ → Res p
      G = words p g

      B : ℕ → Res p
      B = words p b

      Z : ℕ → Res p
      Z = words p z

      U : ℕ → Res p
      U = words p u

      J : ℕ → Res p
      J = words p j

      X : ℕ → Res p
      X = words p x

      whole : Z * H + words p r + B * G ≡ const (Res_ring p) (toRes p c)
      whole =
          ap (λ (v : ℕ → Res p). v + B * G) (sym (divided_is p e h z r dz))
          ∙ (series (Res_ring p)).add_comm (words p e) (B * G)
          ∙ sym (divided_is p s g b e de)
          ∙ same (coef s) (constant c) is_c
          ∙ constant_is c

      ex : Z * H + B * G ≡ const (Res_ring p) (toRes p c)
      ex = exact (Res_ring p) t {r = words p r} (Fin.val_path m.lead)
          (record { out = λ k q. Fin.val_path (m.above k (omega arith) ∙ sym (zero-mod (suc p))) })
          (record { out = λ k q. ap (toRes p) (short k q) }) (words_finite p z) (undone l) whole

      over : J * Z + X ≡ 𝟘
      over = sym (divided_is p o z j x dx) ∙ zero_is o none

      first : (j u z x h : ℕ → Res p) → x * (u * h) + B * G ≡ (j * z + x) * u * h + (- ((j * u + 𝟙) * (z * h))) + z * h + B * G
      first j u z x h = by_ring (series (Res_ring p)) (j ∷ u ∷ z ∷ x ∷ h ∷ B ∷ G ∷ []) (search quote depth 20) (search quote depth 20) refl

      none_left : (u z h : ℕ → Res p) → 𝟘 * u * h + (- (𝟘 * (z * h))) + z * h ≡ z * h
      none_left u z h = by_ring (series (Res_ring p)) (u ∷ z ∷ h ∷ []) (search quote depth 20) (search quote depth 20) refl

      middle : (J * Z + X) * U * H + (- ((J * U + 𝟙) * (Z * H))) + Z * H ≡ Z * H
      middle = ap₂ (λ (a b : ℕ → Res p). a * U * H + (- (b * (Z * H))) + Z * H) over (negated_is u j nj) ∙ none_left U Z H

  -- the inverse itself
  step_inverse : (u j : List ℕ) → NegatedInverse (suc p) u j → (i : List ℕ) × InversePolynomial (suc p) u i
  step_inverse u j n = (
    i,
    record {
      at = back _ (constant 1)
          (product_is i u
          ∙ ap (λ (v : ℕ → Res p). v * U) spelled
          ∙ round J U
          ∙ ap (λ (v : ℕ → Res p). (- v) + 𝟙) (negated_is u j n)
          ∙ last
          ∙ sym one_is);
    },
  )
    where
      N : Finite (Res_ring p) (- words p j)
      N = fin_neg (Res_ring p) (words_finite p j)

      i : List ℕ
      i = spell p N.size (- words p j)

      J : ℕ → Res p
      J = words p j

      U : ℕ → Res p
      U = words p u

      spelled : words p i ≡ - J
      spelled = fun_ext (words_spell p N.size (- J) N.short)

      round : (j u : ℕ → Res p) → (- j) * u ≡ (- (j * u + 𝟙)) + 𝟙
      round j u = by_ring (series (Res_ring p)) (j ∷ u ∷ []) (search quote depth 20) (search quote depth 20) refl

      last : (- 𝟘) + 𝟙 ≡ 𝟙
      last = by_ring (series (Res_ring p)) [] (search quote depth 20) (search quote depth 20) refl

  step_none : (c : ℕ) → c % suc p ≡ 0 → (h g b : List ℕ) → ((k : ℕ) → coef b k ≡ 0) → Completes (suc p) h g b c
  step_none c z h g b none = done h g b c (zero_multiplier h g b none) zero_constant
    where
      zero_constant : const (Res_ring p) (toRes p c) ≡ 𝟘
      zero_constant = fun_ext (elim [ zero ↦ Fin.val_path (z ∙ sym (zero-mod (suc p))) | suc k ↦ refl ])

-- ---- modulo any n

-- x = q y + r modulo ν, and q b is taken from a: a' leads to r
pub multiplier_taken : (n m ν : ℕ) → 1 ≤ m → 1 ≤ ν → n ≡ m *ℕ ν → (h g a b a' q x y r : List ℕ) → Taken n h b q a a' → Divided ν x y q r
    → HasMultiplier n m h g a x → HasMultiplier n m h g b y → HasMultiplier n m h g a' r
multiplier_taken zero m ν p q e = absurd (omega (arith, mul-pos p q))
multiplier_taken (suc n) m ν p q e = step_taken n m ν p q e

-- y = u x modulo ν with u a unit: the multiplier of y over u leads to x
pub multiplier_unit : (n m ν : ℕ) → 1 ≤ m → 1 ≤ ν → n ≡ m *ℕ ν → (h g a b b' j u x y : List ℕ) → ((k : ℕ) → coef a k ≡ 0)
    → Taken n h b j a b' → Multiplied ν y u x → NegatedInverse ν u j → HasMultiplier n m h g b y → HasMultiplier n m h g b' x
multiplier_unit zero m ν p q e = absurd (omega (arith, mul-pos p q))
multiplier_unit (suc n) m ν p q e = step_unit n m ν p q e

-- the multiplier times c leads to c times as much
pub multiplier_scaled : (n c m m' : ℕ) → 1 ≤ n → (h g b b' x x' : List ℕ) → ((k : ℕ) → coef b' k % n ≡ (c *ℕ coef b k) % n)
    → ((k : ℕ) → (m' *ℕ coef x' k) % n ≡ (c *ℕ (m *ℕ coef x k)) % n) → HasMultiplier n m h g b x → HasMultiplier n m' h g b' x'
multiplier_scaled zero c m m' l = absurd (omega arith)
multiplier_scaled (suc n) c m m' l = step_scaled n c m m'

pub multiplier_first : (n : ℕ) → 1 ≤ n → (h g a : List ℕ) → ((k : ℕ) → coef a k ≡ 0) → HasMultiplier n 1 h g a h
multiplier_first zero l = absurd (omega arith)
multiplier_first (suc n) l = step_first n

pub multiplier_second : (n : ℕ) → 1 ≤ n → (h g b q y : List ℕ) → ((k : ℕ) → coef b k ≡ constant 1 k) → Divided n g h q y
    → HasMultiplier n 1 h g b y
multiplier_second zero l = absurd (omega arith)
multiplier_second (suc n) l = step_second n

-- u f + v g = c from the multiplier v alone: u is (c - v g) / h over the unit factor of f = a h
pub completed : (n : ℕ) → 1 ≤ n → (t c : ℕ) (f g h a j v e z r u o s : List ℕ) → Monic n t h → Completes n h g v c
    → ((k : ℕ) → coef s k % n ≡ constant c k % n) → Divided n s g v e
    → Divided n e h z r → ((k : ℕ) → t ≤ k → coef r k ≡ 0)
    → Multiplied n f a h → NegatedInverse n a j
    → ((k : ℕ) → coef o k ≡ 0) → Divided n o z j u
    → Combination n f g u v c
completed zero l = absurd (omega arith)
completed (suc n) l = step_last n

pub inverse_of_negated : (n : ℕ) → 1 ≤ n → (u j : List ℕ) → NegatedInverse n u j → (i : List ℕ) × InversePolynomial n u i
inverse_of_negated zero l = absurd (omega arith)
inverse_of_negated (suc n) l = step_inverse n

-- what leads to 1 completes to m
pub multiplier_completes : (n m ν : ℕ) → 1 ≤ m → 1 ≤ ν → n ≡ m *ℕ ν → (h g b x : List ℕ) → ((k : ℕ) → coef x k % ν ≡ constant 1 k % ν)
    → HasMultiplier n m h g b x → Completes n h g b m
multiplier_completes n m ν p q e h g b x one l = record {
  w = l.w;
  combination = record {
    sum = λ k. l.at k
        ∙ lifted n m ν (coef x k) (constant 1 k) p q e (one k)
        ∙ ap (λ (y : ℕ). y % n) (sym (constant_scale m 1 k) ∙ ap (λ (c : ℕ). constant c k) (mul-one m));
  };
}

-- y over a unit is 1
pub multiplier_unity : (n m ν i : ℕ) → 1 ≤ m → 1 ≤ ν → n ≡ m *ℕ ν → (h g b b' y : List ℕ) → ((k : ℕ) → coef b' k % n ≡ (i *ℕ coef b k) % n)
    → ((k : ℕ) → (i *ℕ coef y k) % ν ≡ constant 1 k % ν) → HasMultiplier n m h g b y → Completes n h g b' m
multiplier_unity n m ν i p q e h g b b' y eb one l =
    multiplier_completes n m ν p q e h g b' (1 ∷ []) (λ k. ap (λ (x : ℕ). x % ν) (unity k))
    (multiplier_scaled n i m m (subst (λ (x : ℕ). 1 ≤ x) (sym e) (mul-pos p q)) h g b b' y (1 ∷ []) eb multiple l)
  where
    unity : (k : ℕ) → coef (1 ∷ []) k ≡ constant 1 k
    unity zero = refl
    unity (suc k) = refl

    round : (m i y : ℕ) → i *ℕ (m *ℕ y) ≡ m *ℕ (i *ℕ y)
    round m i y = omega arith

    multiple : (k : ℕ) → (m *ℕ coef (1 ∷ []) k) % n ≡ (i *ℕ (m *ℕ coef y k)) % n
    multiple k =
        ap (λ (x : ℕ). (m *ℕ x) % n) (unity k)
        ∙ sym (lifted n m ν (i *ℕ coef y k) (constant 1 k) p q e (one k))
        ∙ sym (ap (λ (x : ℕ). x % n) (round m i (coef y k)))

-- 0 completes to 0
pub completes_none : (n c : ℕ) → 1 ≤ n → c % n ≡ 0 → (h g b : List ℕ) → ((k : ℕ) → coef b k ≡ 0) → Completes n h g b c
completes_none zero c l = absurd (omega arith)
completes_none (suc n) c l = step_none n c

-- a multiplier is its coefficients
pub completes_same : (n c : ℕ) (h g b b' : List ℕ) → ((k : ℕ) → coef b k ≡ coef b' k) → Completes n h g b c → Completes n h g b' c
completes_same n c h g b b' e x = record {
  w = x.w;
  combination = record {
    sum = λ k.
        ap (λ (F : ℕ → ℕ). (convolve (coef x.w) (coef h) k +ℕ convolve F (coef g) k) % n) (sym (fun_ext e))
        ∙ x.combination.sum k;
  };
}
