-- A polynomial whose constant is a unit and whose other coefficients are nilpotent has a polynomial as its inverse. One coefficient is
-- added at a time: where w v = 1 and a is nilpotent, w (v + a xⁿ) = 1 - z with z nilpotent, and 1 - z has the inverse 1 + z + z² + ….
--
--   geometric k z     1 + z + … + z^(k-1)
--   Nilpotent a       some power of a is 0
--   Invertible u      some polynomial times u is 1
--   unit_polynomial   the theorem
--   inverse_unique    a series has one inverse at most
--
-- Letters: u, v, w are series, the constant first; i is the inverse of the constant; n is a degree.
use Rattle.std.specs.Prelude.{◌≡◌, refl, [], ◌∷◌, ℕ, zero, suc, ◌<◌, ◌≤◌}
use Rattle.std.proofs.Common.{sym, ◌∙◌, ap, arith}
use Rattle.std.proofs.Math.Path.{fun_ext}
use Rattle.law_algebra.specs.Block.{pad}
use Rattle.law_algebra.specs.Form.{e}
use Rattle.law_algebra.specs.Normaliser.{by_ring, quote}
use Rattle.law_algebra.specs.Ring.{CRing, add_zero, mul_zero, mul_one, neg_zero, zero_mul, pw}
use Rattle.law_algebra.specs.Series.{series, Short, Finite, const, conv_const, const_mul, fin_add, fin_mul, fin_neg, fin_const}

module _ {R : Type 0} (𝓡 : CRing R) where
  open 𝓡 use {add as ◌+◌, mul as ◌*◌, neg as -◌, nil as 𝟘, unit as 𝟙, mul_assoc, mul_comm, one_mul}

  infixl 65 ◌+◌
  infixl 70 ◌*◌
  infix 75 -◌
  abbrev pub geometric : ℕ → R → R
  geometric zero z = 𝟘
  geometric (suc k) z = 𝟙 + z * geometric k z

  geometric_is : (k : ℕ) (z : R) → geometric k z * (𝟙 + (- z)) ≡ 𝟙 + (- pw 𝓡 z k)
  geometric_is zero z = by_ring 𝓡 (z ∷ []) (search quote depth 20) (search quote depth 20) refl
  geometric_is (suc k) z = spread z (geometric k z) ∙ ap (λ y. 𝟙 + (- z) + z * y) (geometric_is k z) ∙ shrink z (pw 𝓡 z k)
    where
      spread : (z g : R) → (𝟙 + z * g) * (𝟙 + (- z)) ≡ 𝟙 + (- z) + z * (g * (𝟙 + (- z)))
      spread z g = by_ring 𝓡 (z ∷ g ∷ []) (search quote depth 20) (search quote depth 20) refl

      shrink : (z p : R) → 𝟙 + (- z) + z * (𝟙 + (- p)) ≡ 𝟙 + (- (z * p))
      shrink z p = by_ring 𝓡 (z ∷ p ∷ []) (search quote depth 20) (search quote depth 20) refl

  pub geometric_one : (k : ℕ) (z : R) → pw 𝓡 z k ≡ 𝟘 → geometric k z * (𝟙 + (- z)) ≡ 𝟙
  geometric_one k z h = geometric_is k z ∙ ap (λ y. 𝟙 + (- y)) h ∙ ap (λ y. 𝟙 + y) (neg_zero 𝓡) ∙ add_zero 𝓡 𝟙

  pub pw_mul : (x y : R) (k : ℕ) → pw 𝓡 (x * y) k ≡ pw 𝓡 x k * pw 𝓡 y k
  pw_mul x y zero = sym (one_mul 𝟙)
  pw_mul x y (suc k) = ap (λ z. x * y * z) (pw_mul x y k) ∙ round x y (pw 𝓡 x k) (pw 𝓡 y k)
    where
      round : (x y p q : R) → x * y * (p * q) ≡ x * p * (y * q)
      round x y p q = by_ring 𝓡 (x ∷ y ∷ p ∷ q ∷ []) (search quote depth 20) (search quote depth 20) refl

  -- w u = 1 and w' u = 1
  pub inverse_unique : (u w w' : R) → w * u ≡ 𝟙 → w' * u ≡ 𝟙 → w ≡ w'
  inverse_unique u w w' h h' = sym (mul_one 𝓡 w) ∙ ap (λ x. w * x) (sym h') ∙ round u w w' ∙ ap (λ x. x * w') h ∙ one_mul w'
    where
      round : (u w w' : R) → w * (w' * u) ≡ w * u * w'
      round u w w' = by_ring 𝓡 (u ∷ w ∷ w' ∷ []) (search quote depth 20) (search quote depth 20) refl

  pub record Nilpotent (a : R) : Type 0 where
    pub exponent : ℕ
    pub power : pw 𝓡 a exponent ≡ 𝟘

  -- the next coefficient
  pad_next : (n : ℕ) (u : ℕ → R) (k : ℕ) → pad 𝓡 (suc n) u k ≡ pad 𝓡 n u k + u n * e 𝓡 n k
  pad_next zero u zero = sym (ap (λ x. 𝟘 + x) (mul_one 𝓡 (u 0)) ∙ 𝓡.zero_add (u 0))
  pad_next zero u (suc k) = sym (ap (λ x. 𝟘 + x) (mul_zero 𝓡 (u 0)) ∙ 𝓡.zero_add 𝟘)
  pad_next (suc n) u zero = sym (ap (λ x. u 0 + x) (mul_zero 𝓡 (u (suc n))) ∙ add_zero 𝓡 (u 0))
  pad_next (suc n) u (suc k) = pad_next n (λ i. u (suc i)) k

  pad_whole : (n : ℕ) (u : ℕ → R) → ((k : ℕ) → n ≤ k → u k ≡ 𝟘) → (k : ℕ) → pad 𝓡 n u k ≡ u k
  pad_whole zero u z k = sym (z k (omega arith))
  pad_whole (suc n) u z zero = refl
  pad_whole (suc n) u z (suc k) = pad_whole n (λ i. u (suc i)) (λ k l. z (suc k) (omega arith)) k

  e_high : (r c : ℕ) → r < c → e 𝓡 r c ≡ 𝟘
  e_high zero zero l = absurd (omega arith)
  e_high zero (suc c) l = refl
  e_high (suc r) zero l = refl
  e_high (suc r) (suc c) l = e_high r c (omega arith)

module _ {R : Type 0} (𝓡 : CRing R) where
  open series 𝓡 use {add as ◌+◌, mul as ◌*◌, neg as -◌, nil as 𝟘, unit as 𝟙}

  infixl 65 ◌+◌
  infixl 70 ◌*◌
  infix 75 -◌
  pub record Invertible (u : ℕ → R) : Type 0 where
    pub w : ℕ → R
    pub finite : Finite 𝓡 w
    pub eq : w * u ≡ 𝟙

  const_pw : (a : R) (k : ℕ) → pw (series 𝓡) (const 𝓡 a) k ≡ const 𝓡 (pw 𝓡 a k)
  const_pw a zero = refl
  const_pw a (suc k) = ap (λ (x : ℕ → R). const 𝓡 a * x) (const_pw a k) ∙ const_mul 𝓡 a (pw 𝓡 a k)

  const_zero : const 𝓡 𝓡.nil ≡ 𝟘
  const_zero = fun_ext (elim [ zero ↦ refl | suc k ↦ refl ])

  fin_geometric : (k : ℕ) (z : ℕ → R) → Finite 𝓡 z → Finite 𝓡 (geometric (series 𝓡) k z)
  fin_geometric zero z Z = record { size = 0; short = record { out = λ k l. refl } }
  fin_geometric (suc k) z Z = fin_add 𝓡 (fin_const 𝓡 𝓡.unit) (fin_mul 𝓡 Z (fin_geometric k z Z))

  -- a nilpotent multiple of a polynomial x is added
  grow : (v x : ℕ → R) (a : R) → Invertible v → Nilpotent 𝓡 a → Finite 𝓡 x → Invertible (v + const 𝓡 a * x)
  grow v x a I N X = record {
    w = geometric (series 𝓡) N.exponent z * I.w;
    finite = fin_mul 𝓡 (fin_geometric N.exponent z (fin_mul 𝓡 (fin_const 𝓡 a) (fin_neg 𝓡 (fin_mul 𝓡 I.finite X)))) I.finite;
    eq = round (geometric (series 𝓡) N.exponent z) I.w v (const 𝓡 a) x
        ∙ ap (λ (y : ℕ → R). geometric (series 𝓡) N.exponent z * (y + (- z))) I.eq ∙ geometric_one (series 𝓡) N.exponent z none;
  }
    where
      z : ℕ → R
      z = const 𝓡 a * (- (I.w * x))

      none : pw (series 𝓡) z N.exponent ≡ 𝟘
      none =
          pw_mul (series 𝓡) (const 𝓡 a) (- (I.w * x)) N.exponent
          ∙ ap (λ (y : ℕ → R). y * pw (series 𝓡) (- (I.w * x)) N.exponent)
          (const_pw a N.exponent ∙ ap (const 𝓡) N.power ∙ const_zero)
          ∙ zero_mul (series 𝓡) _

      round : (g w v c x : ℕ → R) → g * w * (v + c * x) ≡ g * (w * v + (- (c * (- (w * x)))))
      round g w v c x = by_ring (series 𝓡) (g ∷ w ∷ v ∷ c ∷ x ∷ []) (search quote depth 20) (search quote depth 20) refl

  by_terms : (n : ℕ) (u : ℕ → R) (i : R) → 𝓡.mul (u 0) i ≡ 𝓡.unit → ((k : ℕ) → 0 < k → Nilpotent 𝓡 (u k)) → Invertible (pad 𝓡 (suc n) u)
  by_terms zero u i h N = record {
    w = const 𝓡 i;
    finite = fin_const 𝓡 i;
    eq = ap (λ (x : ℕ → R). const 𝓡 i * x) (fun_ext (elim [ zero ↦ refl | suc k ↦ refl ])) ∙ const_mul 𝓡 i (u 0)
        ∙ ap (const 𝓡) (𝓡.mul_comm i (u 0) ∙ h);
  }
  by_terms (suc n) u i h N = rw (sym next) (grow (pad 𝓡 (suc n) u) (e 𝓡 (suc n)) (u (suc n)) (by_terms n u i h N) (N (suc n) (omega arith))
      (record { size = suc (suc n); short = record { out = λ k l. e_high 𝓡 (suc n) k l } }))
    where
      next : pad 𝓡 (suc n) u + const 𝓡 (u (suc n)) * e 𝓡 (suc n) ≡ pad 𝓡 (suc (suc n)) u
      next = fun_ext (λ k. ap (𝓡.add (pad 𝓡 (suc n) u k)) (conv_const 𝓡 (u (suc n)) (e 𝓡 (suc n)) k) ∙ sym (pad_next 𝓡 (suc n) u k))

  pub unit_polynomial : (n : ℕ) (u : ℕ → R) (i : R) → Short 𝓡 n u → 𝓡.mul (u 0) i ≡ 𝓡.unit → ((k : ℕ) → 0 < k → Nilpotent 𝓡 (u k))
      → Invertible u
  unit_polynomial n u i z h N = rw (sym (fun_ext (pad_whole 𝓡 (suc n) u (λ k l. z.out k (omega arith))))) (by_terms n u i h N)
