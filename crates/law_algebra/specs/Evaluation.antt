-- Values of polynomials at a point, over any commutative ring: sums, products and determinants are evaluated entry by entry, and the degree
-- of a determinant is at most the sum of the bounds of its rows.
--
--   ev n z f          f 0 + f 1 z + … , n terms
--   Value b z f x     f has degree at most b, and its value at z is x
--   value-…           of constants, sums, negatives, products, alternating sums
--   rows n b          b 0 + … + b (n - 1)
--   det_value         of determinants: row r of degree at most b r
--
-- Letters: f, g are coefficient sequences, the constant first; z is a point; a, b are bounds of degrees; x, y are values.
use Rattle.std.specs.Prelude.{◌≡◌, refl, [], ◌∷◌}
use Rattle.std.proofs.Common.{sym, ◌∙◌, ap, ap₂, arith}
use Rattle.std.proofs.Math.Path.{fun_ext, subst}
use Prim.Native.Nat.{ℕ, zero, suc, ◌<◌, ◌≤◌, ◌+◌ as ◌+ℕ◌}
use Rattle.law_algebra.specs.Determinant.{det, minor}
use Rattle.law_algebra.specs.Index.{skip, skip_lt}
use Rattle.law_algebra.specs.Normaliser.{by_ring, quote}
use Rattle.law_algebra.specs.Ring.{CRing, add_zero, mul_zero, zero_mul}
use Rattle.law_algebra.specs.Series.{conv, const, series, conv_zero, conv_out}
use Rattle.law_algebra.specs.Stack.{up, up_is}
use Rattle.law_algebra.specs.Sum.{alt}

-- b 0 + … + b (n - 1)
abbrev pub rows : ℕ → (ℕ → ℕ) → ℕ
rows zero b = 0
rows (suc n) b = b zero +ℕ rows n (λ i. b (suc i))

pub rows_skip : (n : ℕ) (b : ℕ → ℕ) (i : ℕ) → i < suc n → b i +ℕ rows n (λ r. b (skip i r)) ≡ rows (suc n) b
rows_skip n b zero l = refl
rows_skip zero b (suc i) l = absurd (omega arith)
rows_skip (suc n) b (suc i) l = let h = rows_skip n (λ r. b (suc r)) i (omega arith) in omega arith

module _ {R : Type 0} (𝓡 : CRing R) where
  open 𝓡 use {
    add as ◌+◌,
    mul as ◌*◌,
    neg as -◌,
    nil as 𝟘,
    unit as 𝟙,
    add_assoc,
    add_comm,
    zero_add,
    neg_add,
    mul_assoc,
    mul_comm,
    one_mul,
    mul_add,
  }

  infixl 65 ◌+◌
  infixl 70 ◌*◌
  infix 75 -◌
  -- n terms, by Horner's rule
  abbrev pub ev : ℕ → R → (ℕ → R) → R
  ev zero z f = 𝟘
  ev (suc n) z f = f zero + z * ev n z (λ i. f (suc i))

  pub ev_cong : (n : ℕ) (z : R) (f g : ℕ → R) → ((i : ℕ) → i < n → f i ≡ g i) → ev n z f ≡ ev n z g
  ev_cong zero z f g h = refl
  ev_cong (suc n) z f g h = ap₂ (λ x y. x + z * y) (h 0 (omega arith)) (ev_cong n z (λ i. f (suc i)) (λ i. g (suc i))
      (λ i l. h (suc i) (omega arith)))

  pub ev_zero : (n : ℕ) (z : R) (f : ℕ → R) → ((i : ℕ) → i < n → f i ≡ 𝟘) → ev n z f ≡ 𝟘
  ev_zero zero z f h = refl
  ev_zero (suc n) z f h = ap₂ (λ x y. x + z * y) (h 0 (omega arith)) (ev_zero n z (λ i. f (suc i)) (λ i l. h (suc i) (omega arith)))
      ∙ ap (λ x. 𝟘 + x) (mul_zero 𝓡 z) ∙ zero_add 𝟘

  pub ev_lin : (n : ℕ) (z c : R) (f g : ℕ → R) → ev n z (λ i. c * f i + g i) ≡ c * ev n z f + ev n z g
  ev_lin zero z c f g = sym (ap (λ x. x + 𝟘) (mul_zero 𝓡 c) ∙ zero_add 𝟘)
  ev_lin (suc n) z c f g =
      ap (λ x. c * f 0 + g 0 + z * x) (ev_lin n z c (λ i. f (suc i)) (λ i. g (suc i)))
      ∙ round z c (f 0) (g 0) (ev n z (λ i. f (suc i))) (ev n z (λ i. g (suc i)))
    where
      round : (z c a b x y : R) → c * a + b + z * (c * x + y) ≡ c * (a + z * x) + (b + z * y)
      round z c a b x y = by_ring 𝓡 (z ∷ c ∷ a ∷ b ∷ x ∷ y ∷ []) (search quote depth 20) (search quote depth 20) refl

  -- terms beyond the degree
  pub ev_more : (n N : ℕ) (z : R) (f : ℕ → R) → n ≤ N → ((k : ℕ) → n ≤ k → f k ≡ 𝟘) → ev N z f ≡ ev n z f
  ev_more zero N z f l h = ev_zero N z f (λ i p. h i (omega arith))
  ev_more (suc n) zero z f l h = absurd (omega arith)
  ev_more (suc n) (suc N) z f l h = ap (λ x. f 0 + z * x) (ev_more n N z (λ i. f (suc i)) (omega arith) (λ k p. h (suc k) (omega arith)))

  ev_conv : (a n : ℕ) (z : R) (f g : ℕ → R) → ((k : ℕ) → a ≤ k → f k ≡ 𝟘) → ((k : ℕ) → n ≤ k → g k ≡ 𝟘)
      → ev (up a n) z (conv 𝓡 f g) ≡ ev a z f * ev n z g
  ev_conv zero n z f g zf zg = ev_zero n z (conv 𝓡 f g) (λ i l. conv_zero 𝓡 f g (λ k. zf k (omega arith)) i) ∙ sym (zero_mul 𝓡 (ev n z g))
  ev_conv (suc a) n z f g zf zg =
      ap (λ x. f 0 * g 0 + z * x) (ev_lin (up a n) z (f 0) (λ i. g (suc i)) (conv 𝓡 (λ i. f (suc i)) g)
      ∙ ap (λ x. f 0 * ev (up a n) z (λ i. g (suc i)) + x) (ev_conv a n z (λ i. f (suc i)) g (λ k l. zf (suc k) (omega arith)) zg))
      ∙ round z (f 0) (g 0) (ev (up a n) z (λ i. g (suc i))) (ev a z (λ i. f (suc i))) (ev n z g)
      ∙ ap (λ x. f 0 * x + z * ev a z (λ i. f (suc i)) * ev n z g) (ev_more n (suc (up a n)) z g (omega (arith, up_is a n)) zg)
      ∙ sym (again z (f 0) (ev a z (λ i. f (suc i))) (ev n z g))
    where
      round : (z f g x y w : R) → f * g + z * (f * x + y * w) ≡ f * (g + z * x) + z * y * w
      round z f g x y w = by_ring 𝓡 (z ∷ f ∷ g ∷ x ∷ y ∷ w ∷ []) (search quote depth 20) (search quote depth 20) refl

      again : (z f y w : R) → (f + z * y) * w ≡ f * w + z * y * w
      again z f y w = by_ring 𝓡 (z ∷ f ∷ y ∷ w ∷ []) (search quote depth 20) (search quote depth 20) refl

  -- f has degree at most b, and its value at z is x
  pub record Value (b : ℕ) (z : R) (f : ℕ → R) (x : R) : Type 0 where
    pub out : (k : ℕ) → b < k → f k ≡ 𝟘
    pub at : ev (suc b) z f ≡ x

  pub value_of : (b : ℕ) (z : R) (f : ℕ → R) → ((k : ℕ) → b < k → f k ≡ 𝟘) → Value b z f (ev (suc b) z f)
  value_of b z f h = record { out = h; at = refl }

  pub value_const : (z x : R) → Value 0 z (const 𝓡 x) x
  value_const z x = record { out = go; at = ap (λ y. x + y) (mul_zero 𝓡 z) ∙ add_zero 𝓡 x }
    where
      go : (k : ℕ) → 0 < k → const 𝓡 x k ≡ 𝟘
      go zero l = absurd (omega arith)
      go (suc k) l = refl

  pub value_zero : (b : ℕ) (z : R) → Value b z (λ k. 𝟘) 𝟘
  value_zero b z = record { out = λ k l. refl; at = ev_zero (suc b) z (λ k. 𝟘) (λ i l. refl) }

  pub value_more : {a b : ℕ} {z x : R} {f : ℕ → R} → a ≤ b → Value a z f x → Value b z f x
  value_more {a} {b} {z} {x} {f} l v = record {
    out = λ k p. v.out k (omega arith);
    at = ev_more (suc a) (suc b) z f (omega arith) (λ k p. v.out k (omega arith)) ∙ v.at;
  }

  pub value_lin : {b : ℕ} {z x y : R} {f g : ℕ → R} (c : R) → Value b z f x → Value b z g y → Value b z (λ k. c * f k + g k) (c * x + y)
  value_lin {b} {z} {x} {y} {f} {g} c v w = record {
    out = λ k p. ap₂ (λ s t. c * s + t) (v.out k p) (w.out k p) ∙ ap (λ s. s + 𝟘) (mul_zero 𝓡 c) ∙ zero_add 𝟘;
    at = ev_lin (suc b) z c f g ∙ ap₂ (λ s t. c * s + t) v.at w.at;
  }

  pub value_sub : {b : ℕ} {z x y : R} {f g : ℕ → R} → Value b z f x → Value b z g y → Value b z (λ k. f k + (- g k)) (x + (- y))
  value_sub {b} {z} {x} {y} {f} {g} v w =
      let u = value_lin (- 𝟙) w v in
      record {
        out = λ k p. sym (round (f k) (g k)) ∙ u.out k p;
        at = ap (ev (suc b) z) (fun_ext (λ k. sym (round (f k) (g k)))) ∙ u.at ∙ round x y;
      }
    where
      round : (x y : R) → (- 𝟙) * y + x ≡ x + (- y)
      round x y = by_ring 𝓡 (x ∷ y ∷ []) (search quote depth 20) (search quote depth 20) refl

  pub value_mul : {a b : ℕ} {z x y : R} {f g : ℕ → R} → Value a z f x → Value b z g y → Value (a +ℕ b) z (conv 𝓡 f g) (x * y)
  value_mul {a} {b} {z} {x} {y} {f} {g} v w =
      let o = conv_out 𝓡 a b f g v.out w.out in
      record {
        out = o;
        at = sym (ev_more (suc (a +ℕ b)) (up (suc a) (suc b)) z (conv 𝓡 f g) (omega (arith, up_is (suc a) (suc b)))
            (λ k p. o k (omega arith)))
            ∙ ev_conv (suc a) (suc b) z f g (λ k p. v.out k (omega arith)) (λ k p. w.out k (omega arith)) ∙ ap₂ ◌*◌ v.at w.at;
      }

  alt_value : (n b : ℕ) (z : R) (F : ℕ → ℕ → R) (x : ℕ → R) → ((i : ℕ) → i < n → Value b z (F i) (x i))
      → Value b z (alt (series 𝓡) n F) (alt 𝓡 n x)
  alt_value zero b z F x h = value_zero b z
  alt_value (suc n) b z F x h =
      value_sub (h 0 (omega arith)) (alt_value n b z (λ i. F (suc i)) (λ i. x (suc i)) (λ i l. h (suc i) (omega arith)))

  -- EVALUATION COMMUTES WITH THE DETERMINANT, and its degree is at most the sum of the rows' bounds
  pub det_value : (n : ℕ) (b : ℕ → ℕ) (z : R) (a : ℕ → ℕ → ℕ → R) (x : ℕ → ℕ → R)
      → ((r c : ℕ) → r < n → c < n → Value (b r) z (a r c) (x r c)) → Value (rows n b) z (det (series 𝓡) n a) (det 𝓡 n x)
  unfolding det
  det_value zero b z a x h = value_const z 𝟙
  det_value (suc n) b z a x h =
      alt_value (suc n) (rows (suc n) b) z (λ i. conv 𝓡 (a i 0) (det (series 𝓡) n (minor (series 𝓡) i a)))
      (λ i. x i 0 * det 𝓡 n (minor 𝓡 i x))
      (λ i l. subst (λ (k : ℕ). Value k z (conv 𝓡 (a i 0) (det (series 𝓡) n (minor (series 𝓡) i a))) (x i 0 * det 𝓡 n (minor 𝓡 i x)))
      (rows_skip n b i l) (value_mul (h i 0 l (omega arith)) (det_value n (λ r. b (skip i r)) z (minor (series 𝓡) i a) (minor 𝓡 i x)
      (λ r c p q. h (skip i r) (suc c) (skip_lt i r n p) (omega arith)))))
