-- Interpolation over any commutative ring. A polynomial is fixed by its values at as many points as it has coefficients, where the
-- differences of the points are units.
--
--   part n z f        the quotient of f, of n terms, by x - z
--   ev_part           f at w is f at z plus (w - z) times the quotient at w
--   Inverted x        x has an inverse
--   vanishing         0 at n points whose differences are units: every one of n coefficients is 0
--   same_values       the same values: the same coefficients
--
-- Letters: f, g are coefficient sequences of n terms; z, w are points; p is the sequence of the points, i the inverse of a difference.
use Rattle.std.specs.Prelude.{◌≡◌, refl, [], ◌∷◌}
use Rattle.std.proofs.Common.{sym, ◌∙◌, ap, arith}
use Prim.Native.Nat.{ℕ, zero, suc, ◌<◌, ◌≤◌}
use Rattle.std.proofs.Math.Decide.{dec_lt}
use Rattle.law_algebra.specs.Normaliser.{by_ring, quote}
use Rattle.law_algebra.specs.Ring.{CRing, add_zero, mul_zero, add_cancel}
use Rattle.law_algebra.specs.Evaluation.{ev, ev_zero, ev_lin}

module _ {R : Type 0} (𝓡 : CRing R) where
  open 𝓡 use {add as ◌+◌, mul as ◌*◌, neg as -◌, nil as 𝟘, unit as 𝟙, zero_add, mul_assoc, mul_comm, one_mul}

  infixl 65 ◌+◌
  infixl 70 ◌*◌
  infix 75 -◌
  -- the quotient by x - z
  abbrev pub part : ℕ → R → (ℕ → R) → ℕ → R
  part zero z f k = 𝟘
  part (suc n) z f zero = ev 𝓡 n z (λ i. f (suc i))
  part (suc n) z f (suc k) = part n z (λ i. f (suc i)) k

  pub ev_part : (n : ℕ) (z w : R) (f : ℕ → R) → ev 𝓡 (suc n) w f ≡ ev 𝓡 (suc n) z f + (w + (- z)) * ev 𝓡 n w (part (suc n) z f)
  ev_part zero z w f = round z w (f 0)
    where
      round : (z w a : R) → a + w * 𝟘 ≡ a + z * 𝟘 + (w + (- z)) * 𝟘
      round z w a = by_ring 𝓡 (z ∷ w ∷ a ∷ []) (search quote depth 20) (search quote depth 20) refl
  ev_part (suc n) z w f =
      ap (λ x. f 0 + w * x) (ev_part n z w (λ i. f (suc i)))
      ∙ round z w (f 0) (ev 𝓡 (suc n) z (λ i. f (suc i))) (ev 𝓡 n w (part (suc n) z (λ i. f (suc i))))
    where
      round : (z w a x q : R) → a + w * (x + (w + (- z)) * q) ≡ a + z * x + (w + (- z)) * (x + w * q)
      round z w a x q = by_ring 𝓡 (z ∷ w ∷ a ∷ x ∷ q ∷ []) (search quote depth 20) (search quote depth 20) refl

  -- the coefficients from the quotient's
  part_back : (n : ℕ) (z : R) (f : ℕ → R) (k : ℕ) → k < n → part (suc n) z f k ≡ f (suc k) + z * part (suc n) z f (suc k)
  part_back zero z f k l = absurd (omega arith)
  part_back (suc n) z f zero l = refl
  part_back (suc n) z f (suc k) l = part_back n z (λ i. f (suc i)) k (omega arith)

  part_out : (n : ℕ) (z : R) (f : ℕ → R) (k : ℕ) → n ≤ k → part (suc n) z f k ≡ 𝟘
  part_out zero z f zero l = refl
  part_out zero z f (suc k) l = refl
  part_out (suc n) z f zero l = absurd (omega arith)
  part_out (suc n) z f (suc k) l = part_out n z (λ i. f (suc i)) k (omega arith)

  -- x is a unit
  pub record Inverted (x : R) : Type 0 where
    pub i : R
    pub one : i * x ≡ 𝟙

  pub unit_cancel : {x y : R} → Inverted x → x * y ≡ 𝟘 → y ≡ 𝟘
  unit_cancel {x} {y} u h =
      sym (one_mul y) ∙ ap (λ s. s * y) (sym u.one) ∙ mul_assoc u.i x y ∙ ap (λ s. u.i * s) h ∙ mul_zero 𝓡 u.i

  Vanishing : ℕ → Type 0
  Vanishing n = (p : ℕ → R) (f : ℕ → R) → ((i : ℕ) → i < n → ev 𝓡 n (p i) f ≡ 𝟘)
      → ((i j : ℕ) → i < j → j < n → Inverted (p j + (- p i))) → (k : ℕ) → k < n → f k ≡ 𝟘

  step : (n : ℕ) → Vanishing n → Vanishing (suc n)
  unfolding Vanishing
  step n ih p f h u = answer
    where
      q : ℕ → R
      q = part (suc n) (p 0) f

      at : (i : ℕ) → i < n → ev 𝓡 n (p (suc i)) q ≡ 𝟘
      at i l = unit_cancel (u 0 (suc i) (omega arith) (omega arith))
          (sym (zero_add _) ∙ ap (λ x. x + (p (suc i) + (- p 0)) * ev 𝓡 n (p (suc i)) q) (sym (h 0 (omega arith)))
          ∙ sym (ev_part n (p 0) (p (suc i)) f) ∙ h (suc i) (omega arith))

      below : (k : ℕ) → k < n → q k ≡ 𝟘
      below = ih (λ i. p (suc i)) q at (λ i j a b. u (suc i) (suc j) (omega arith) (omega arith))

      all : (k : ℕ) → Dec (k < n) → q k ≡ 𝟘
      all k (yes l) = below k l
      all k (no l) = part_out n (p 0) f k (omega arith)

      higher : (k : ℕ) → k < n → f (suc k) ≡ 𝟘
      higher k l =
          sym (add_zero 𝓡 (f (suc k))) ∙ ap (λ x. f (suc k) + x) (sym (mul_zero 𝓡 (p 0)))
          ∙ ap (λ x. f (suc k) + p 0 * x) (sym (all (suc k) (dec_lt (suc k) n))) ∙ sym (part_back n (p 0) f k l) ∙ below k l

      answer : (k : ℕ) → k < suc n → f k ≡ 𝟘
      answer zero l =
          sym (add_zero 𝓡 (f 0)) ∙ ap (λ x. f 0 + x) (sym (mul_zero 𝓡 (p 0)))
          ∙ ap (λ x. f 0 + p 0 * x) (sym (ev_zero 𝓡 n (p 0) (λ i. f (suc i)) higher)) ∙ h 0 (omega arith)
      answer (suc k) l = higher k (omega arith)

  -- A POLYNOMIAL OF n TERMS THAT VANISHES AT n POINTS with unit differences is 0
  pub vanishing : (n : ℕ) (p : ℕ → R) (f : ℕ → R) → ((i : ℕ) → i < n → ev 𝓡 n (p i) f ≡ 𝟘)
      → ((i j : ℕ) → i < j → j < n → Inverted (p j + (- p i))) → (k : ℕ) → k < n → f k ≡ 𝟘
  unfolding Vanishing
  vanishing zero p f h u k l = absurd (omega arith)
  vanishing (suc n) p f h u k l = step n (vanishing n) p f h u k l

  -- the same values at n points: the same n coefficients
  pub same_values : (n : ℕ) (p : ℕ → R) (f g : ℕ → R) → ((i : ℕ) → i < n → ev 𝓡 n (p i) f ≡ ev 𝓡 n (p i) g)
      → ((i j : ℕ) → i < j → j < n → Inverted (p j + (- p i))) → (k : ℕ) → k < n → f k ≡ g k
  same_values n p f g h u k l = equal (vanishing n p (λ i. (- 𝟙) * g i + f i)
      (λ i q. ev_lin 𝓡 n (p i) (- 𝟙) g f ∙ ap (λ x. (- 𝟙) * ev 𝓡 n (p i) g + x) (h i q) ∙ none (ev 𝓡 n (p i) g)) u k l)
    where
      none : (x : R) → (- 𝟙) * x + x ≡ 𝟘
      none x = by_ring 𝓡 (x ∷ []) (search quote depth 20) (search quote depth 20) refl

      equal : {x y : R} → (- 𝟙) * y + x ≡ 𝟘 → x ≡ y
      equal {x} {y} e = add_cancel 𝓡 ((- 𝟙) * y) x y (e ∙ sym (none y))
