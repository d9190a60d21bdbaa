-- Finite sums, signs and alternating sums over a ring, counted from the front.
--
--   sum n f         f 0 + … + f (n - 1)
--   sgn n x         x with the sign (-1)ⁿ
--   alt n f         f 0 - f 1 + f 2 - …, n terms
--
-- Letters: f, g, h are sequences of ring elements; n is the number of terms.
use Rattle.std.specs.Prelude.{◌≡◌, refl, ℕ, zero, suc, ◌<◌, ◌+◌ as ◌+ℕ◌, ◌*◌ as ◌*ℕ◌}
use Rattle.std.proofs.Common.{sym, ◌∙◌, ap, ap₂, arith}
use Rattle.law_algebra.specs.Index.{skip}
use Rattle.law_algebra.specs.Ring.{CRing, add_zero, add_left_comm, add_neg, mul_zero, mul_neg, neg_neg, neg_of_add, neg_zero}
use Rattle.law_algebra.specs.Stack.{up_is, up}

module _ {R : Type 0} (𝓡 : CRing R) where
  open 𝓡 use {add as ◌+◌, mul as ◌*◌, neg as -◌, nil as 𝟘, add_assoc, add_comm, zero_add, mul_assoc, mul_comm, mul_add}

  infixl 65 ◌+◌
  infixl 70 ◌*◌
  infix 75 -◌
  -- Σ_{i<n} f i
  abbrev pub sum : ℕ → (ℕ → R) → R
  sum zero f = 𝟘
  sum (suc n) f = f zero + sum n (λ i. f (suc i))

  pub sum_cong : (n : ℕ) (f g : ℕ → R) → ((i : ℕ) → i < n → f i ≡ g i) → sum n f ≡ sum n g
  sum_cong zero f g h = refl
  sum_cong (suc n) f g h = ap₂ ◌+◌ (h zero (omega arith)) (sum_cong n (λ i. f (suc i)) (λ i. g (suc i)) (λ i l. h (suc i) (omega arith)))

  pub sum_zero : (n : ℕ) (f : ℕ → R) → ((i : ℕ) → i < n → f i ≡ 𝟘) → sum n f ≡ 𝟘
  sum_zero zero f h = refl
  sum_zero (suc n) f h = ap₂ ◌+◌ (h zero (omega arith)) (sum_zero n (λ i. f (suc i)) (λ i l. h (suc i) (omega arith))) ∙ zero_add 𝟘

  -- c · g + h, summed: additivity and scaling at once
  pub sum_lin : (n : ℕ) (c : R) (f g h : ℕ → R) → ((i : ℕ) → i < n → f i ≡ c * g i + h i) → sum n f ≡ c * sum n g + sum n h
  sum_lin zero c f g h e = sym (ap (λ x. x + 𝟘) (mul_zero 𝓡 c) ∙ zero_add 𝟘)
  sum_lin (suc n) c f g h e =
      ap₂ ◌+◌ (e zero (omega arith)) (sum_lin n c (λ i. f (suc i)) (λ i. g (suc i)) (λ i. h (suc i)) (λ i l. e (suc i) (omega arith)))
      ∙ simp (mul_add, add_assoc, add_comm, add_left_comm 𝓡)

  pub mul_sum : (n : ℕ) (c : R) (f : ℕ → R) → c * sum n f ≡ sum n (λ i. c * f i)
  mul_sum zero c f = mul_zero 𝓡 c
  mul_sum (suc n) c f = mul_add c (f zero) (sum n (λ i. f (suc i))) ∙ ap (λ x. c * f zero + x) (mul_sum n c (λ i. f (suc i)))

  pub sum_mul : (n : ℕ) (c : R) (f : ℕ → R) → sum n f * c ≡ sum n (λ i. f i * c)
  sum_mul n c f = mul_comm (sum n f) c ∙ mul_sum n c f ∙ sum_cong n (λ i. c * f i) (λ i. f i * c) (λ i l. mul_comm c (f i))

  pub sum_last : (n : ℕ) (f : ℕ → R) → sum (suc n) f ≡ f n + sum n f
  sum_last zero f = refl
  sum_last (suc n) f = ap (λ x. f 0 + x) (sum_last n (λ i. f (suc i))) ∙ add_left_comm 𝓡 (f 0) (f (suc n)) (sum n (λ i. f (suc i)))

  abbrev pub sgn : ℕ → R → R
  sgn zero x = x
  sgn (suc n) x = - sgn n x

  sgn_up : (a b : ℕ) (x : R) → sgn (up a b) x ≡ sgn a (sgn b x)
  sgn_up zero b x = refl
  sgn_up (suc a) b x = ap (λ y. - y) (sgn_up a b x)

  pub sgn_add : (a b : ℕ) (x : R) → sgn (a +ℕ b) x ≡ sgn a (sgn b x)
  sgn_add a b x = ap (λ (k : ℕ). sgn k x) (sym (up_is a b)) ∙ sgn_up a b x

  pub sgn_neg : (a : ℕ) (x : R) → sgn a (- x) ≡ - sgn a x
  sgn_neg zero x = refl
  sgn_neg (suc a) x = ap (λ y. - y) (sgn_neg a x)

  pub sgn_twice : (a : ℕ) (x : R) → sgn a (sgn a x) ≡ x
  sgn_twice zero x = refl
  sgn_twice (suc a) x = ap (λ y. - y) (sgn_neg a (sgn a x)) ∙ neg_neg 𝓡 _ ∙ sgn_twice a x

  pub sgn_even : (a : ℕ) (x : R) → sgn (a +ℕ a) x ≡ x
  sgn_even a x = sgn_add a a x ∙ sgn_twice a x

  -- s (s + 1) is even
  pub sgn_next : (s : ℕ) (x : R) → sgn (s *ℕ suc s) x ≡ x
  sgn_next zero x = ap (λ (k : ℕ). sgn k x) none
    where
      none : 0 *ℕ 1 ≡ 0
      none = refl
  sgn_next (suc s) x = ap (λ (k : ℕ). sgn k x) (more s) ∙ sgn_add (s *ℕ suc s) (suc s +ℕ suc s) x ∙ sgn_next s (sgn (suc s +ℕ suc s) x)
      ∙ sgn_even (suc s) x
    where
      more : (s : ℕ) → suc s *ℕ suc (suc s) ≡ s *ℕ suc s +ℕ (suc s +ℕ suc s)
      more s = omega arith

  pub sgn_zero : (j : ℕ) (x : R) → 𝟘 ≡ sgn j x → x ≡ 𝟘
  sgn_zero zero x h = sym h
  sgn_zero (suc j) x h = sgn_zero j x (sym (neg_zero 𝓡) ∙ ap (λ y. - y) h ∙ neg_neg 𝓡 (sgn j x))

  pub sgn_mul : (j : ℕ) (x y : R) → x * sgn j y ≡ sgn j (x * y)
  sgn_mul zero x y = refl
  sgn_mul (suc j) x y = mul_neg 𝓡 x (sgn j y) ∙ ap (λ z. - z) (sgn_mul j x y)

  pub sgn_assoc : (j : ℕ) (x y z : R) → x * (y * sgn j z) ≡ sgn j (x * y) * z
  sgn_assoc j x y z =
      sym (mul_assoc x y (sgn j z)) ∙ sgn_mul j (x * y) z ∙ ap (sgn j) (mul_comm (x * y) z) ∙ sym (sgn_mul j z (x * y))
      ∙ mul_comm z (sgn j (x * y))

  -- f 0 − f 1 + f 2 − …, n terms
  abbrev pub alt : ℕ → (ℕ → R) → R
  alt zero f = 𝟘
  alt (suc n) f = f zero + (- alt n (λ i. f (suc i)))

  pub alt_cong : (n : ℕ) (f g : ℕ → R) → ((i : ℕ) → i < n → f i ≡ g i) → alt n f ≡ alt n g
  alt_cong zero f g h = refl
  alt_cong (suc n) f g h = ap₂ (λ x y. x + (- y)) (h zero (omega arith))
      (alt_cong n (λ i. f (suc i)) (λ i. g (suc i)) (λ i l. h (suc i) (omega arith)))

  pub alt_zero : (n : ℕ) (f : ℕ → R) → ((i : ℕ) → i < n → f i ≡ 𝟘) → alt n f ≡ 𝟘
  alt_zero zero f h = refl
  alt_zero (suc n) f h = ap₂ (λ x y. x + (- y)) (h zero (omega arith)) (alt_zero n (λ i. f (suc i)) (λ i l. h (suc i) (omega arith)))
      ∙ add_neg 𝓡 𝟘

  pub alt_lin : (n : ℕ) (c : R) (f g h : ℕ → R) → ((i : ℕ) → i < n → f i ≡ c * g i + h i) → alt n f ≡ c * alt n g + alt n h
  alt_lin zero c f g h e = sym (ap (λ x. x + 𝟘) (mul_zero 𝓡 c) ∙ zero_add 𝟘)
  alt_lin (suc n) c f g h e =
      ap₂ (λ x y. x + (- y)) (e zero (omega arith)) (alt_lin n c (λ i. f (suc i)) (λ i. g (suc i)) (λ i. h (suc i))
      (λ i l. e (suc i) (omega arith)))
      ∙ simp (mul_add, neg_of_add 𝓡, mul_neg 𝓡, add_assoc, add_comm, add_left_comm 𝓡)

  -- two neighbours cancel, the others are 0
  pub alt_adj : (k m : ℕ) (f : ℕ → R) → k < suc m → f k ≡ f (suc k) → ((i : ℕ) → i < m → f (skip k (skip k i)) ≡ 𝟘)
      → alt (suc (suc m)) f ≡ 𝟘
  alt_adj zero m f l e h =
      ap₂ (λ x y. x + (- (f 1 + (- y)))) e (alt_zero m (λ i. f (suc (suc i))) h)
      ∙ simp (neg_zero 𝓡, add_zero 𝓡, add_neg 𝓡)
  alt_adj (suc k) zero f l e h = absurd (omega arith)
  alt_adj (suc k) (suc m) f l e h =
      ap₂ (λ x y. x + (- y)) (h zero (omega arith)) (alt_adj k m (λ i. f (suc i)) (omega arith) e (λ i b. h (suc i) (omega arith)))
      ∙ add_neg 𝓡 𝟘

  pub alt_sum : (n : ℕ) (f : ℕ → R) → alt n f ≡ sum n (λ j. sgn j (f j))
  alt_sum zero f = refl
  alt_sum (suc n) f = ap (λ x. f zero + x) (ap (λ x. - x) (alt_sum n (λ i. f (suc i))) ∙ neg_sum n (λ j. sgn j (f (suc j))))
    where
      neg_sum : (n : ℕ) (f : ℕ → R) → - sum n f ≡ sum n (λ i. - f i)
      neg_sum zero f = neg_zero 𝓡
      neg_sum (suc n) f = neg_of_add 𝓡 (f zero) (sum n (λ i. f (suc i))) ∙ ap (λ x. (- f zero) + x) (neg_sum n (λ i. f (suc i)))
