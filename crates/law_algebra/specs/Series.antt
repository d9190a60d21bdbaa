-- Power series over a ring are a ring again, their coefficients' sequences under convolution. Polynomials are the series with a bound on
-- their length, so an identity of polynomials is an identity of this ring.
--
--   conv f g k      the coefficient k of the product
--   const x         the constant x
--   series 𝓡       the ring of power series over 𝓡
--   Short n f       f has no coefficient from place n on
--   Finite f        f is a polynomial
--
-- Letters: f, g, h, u, v are series, the constant first; c, k are places; x is an element of the ring.
use Rattle.std.specs.Prelude.{◌≡◌, refl, ℕ, zero, suc, ◌<◌, ◌≤◌, ◌+◌ as ◌+ℕ◌}
use Rattle.std.proofs.Common.{sym, ◌∙◌, ap, ap₂, arith}
use Rattle.std.proofs.Math.Path.{fun_ext}
use Rattle.law_algebra.specs.Ring.{CRing, add_zero, add_left_comm, mul_zero, add_mul, Hom, neg_zero, zero_mul}

module _ {R : Type 0} (𝓡 : CRing R) where
  open 𝓡 use {
    add as ◌+◌,
    mul as ◌*◌,
    neg as -◌,
    nil as 𝟘,
    unit as 𝟙,
    add_assoc,
    add_comm,
    zero_add,
    neg_add,
    mul_assoc,
    mul_comm,
    one_mul,
    mul_add,
  }

  infixl 65 ◌+◌
  infixl 70 ◌*◌
  infix 75 -◌
  -- the product of two polynomials
  abbrev pub conv : (ℕ → R) → (ℕ → R) → ℕ → R
  conv f h zero = f 0 * h 0
  conv f h (suc c) = f 0 * h (suc c) + conv (λ i. f (suc i)) h c

  pub conv_right : (f h : ℕ → R) (c : ℕ) → conv f h (suc c) ≡ h 0 * f (suc c) + conv f (λ i. h (suc i)) c
  conv_right f h zero = add_comm (f 0 * h 1) (f 1 * h 0) ∙ ap (λ x. x + f 0 * h 1) (mul_comm (f 1) (h 0))
  conv_right f h (suc c) =
      ap (λ x. f 0 * h (suc (suc c)) + x) (conv_right (λ i. f (suc i)) h c)
      ∙ add_left_comm 𝓡 (f 0 * h (suc (suc c))) (h 0 * f (suc (suc c))) (conv (λ i. f (suc i)) (λ i. h (suc i)) c)

  pub conv_comm : (f h : ℕ → R) (c : ℕ) → conv f h c ≡ conv h f c
  conv_comm f h zero = mul_comm (f 0) (h 0)
  conv_comm f h (suc c) = ap (λ x. f 0 * h (suc c) + x) (conv_comm (λ i. f (suc i)) h c) ∙ sym (conv_right h f c)

  pub conv_zero : (f h : ℕ → R) → ((i : ℕ) → f i ≡ 𝟘) → (c : ℕ) → conv f h c ≡ 𝟘
  conv_zero f h z zero = ap (λ x. x * h 0) (z 0) ∙ zero_mul 𝓡 (h 0)
  conv_zero f h z (suc c) = ap₂ (λ x y. x * h (suc c) + y) (z 0) (conv_zero (λ i. f (suc i)) h (λ i. z (suc i)) c)
      ∙ simp (zero_mul 𝓡, zero_add)

  -- the constant x
  abbrev pub const : R → ℕ → R
  const x zero = x
  const x (suc k) = 𝟘

  lin_step : (x a b h u v : R) → (x * a + b) * h + (x * u + v) ≡ x * (a * h + u) + (b * h + v)
  lin_step x a b h u v = simp (add_mul 𝓡, mul_add, mul_assoc, add_assoc, add_comm, add_left_comm 𝓡)

  pub conv_lin : (x : R) (a b h : ℕ → R) (c : ℕ) → conv (λ i. x * a i + b i) h c ≡ x * conv a h c + conv b h c
  conv_lin x a b h zero = simp (add_mul 𝓡, mul_assoc)
  conv_lin x a b h (suc c) =
      ap (λ y. (x * a 0 + b 0) * h (suc c) + y) (conv_lin x (λ i. a (suc i)) (λ i. b (suc i)) h c)
      ∙ lin_step x (a 0) (b 0) (h (suc c)) (conv (λ i. a (suc i)) h c) (conv (λ i. b (suc i)) h c)

  assoc_step : (f g h u v : R) → f * g * h + (f * u + v) ≡ f * (g * h + u) + v
  assoc_step f g h u v = simp (mul_add, mul_assoc, add_assoc)

  pub conv_assoc : (f g h : ℕ → R) (c : ℕ) → conv (conv f g) h c ≡ conv f (conv g h) c
  conv_assoc f g h zero = mul_assoc (f 0) (g 0) (h 0)
  conv_assoc f g h (suc c) =
      ap (λ y. f 0 * g 0 * h (suc c) + y) (conv_lin (f 0) (λ i. g (suc i)) (conv (λ i. f (suc i)) g) h c
      ∙ ap (λ y. f 0 * conv (λ i. g (suc i)) h c + y) (conv_assoc (λ i. f (suc i)) g h c))
      ∙ assoc_step (f 0) (g 0) (h (suc c)) (conv (λ i. g (suc i)) h c) (conv (λ i. f (suc i)) (conv g h) c)

  pub conv_const : (x : R) (f : ℕ → R) (c : ℕ) → conv (const x) f c ≡ x * f c
  conv_const x f zero = refl
  conv_const x f (suc c) = ap (λ y. x * f (suc c) + y) (conv_zero (λ i. 𝟘) f (λ i. refl) c) ∙ add_zero 𝓡 (x * f (suc c))

  pub conv_add : (f a b : ℕ → R) (c : ℕ) → conv f (λ i. a i + b i) c ≡ conv f a c + conv f b c
  conv_add f a b zero = mul_add (f 0) (a 0) (b 0)
  conv_add f a b (suc c) =
      ap (λ y. f 0 * (a (suc c) + b (suc c)) + y) (conv_add (λ i. f (suc i)) a b c) ∙ simp (mul_add, add_assoc, add_comm, add_left_comm 𝓡)

  abbrev pub series : CRing (ℕ → R)
  series = record {
    add = λ f g k. f k + g k;
    mul = conv;
    neg = λ f k. - f k;
    nil = λ k. 𝟘;
    unit = const 𝟙;
    add_assoc = λ f g h. fun_ext (λ k. add_assoc (f k) (g k) (h k));
    add_comm = λ f g. fun_ext (λ k. add_comm (f k) (g k));
    zero_add = λ f. fun_ext (λ k. zero_add (f k));
    neg_add = λ f. fun_ext (λ k. neg_add (f k));
    mul_assoc = λ f g h. fun_ext (conv_assoc f g h);
    mul_comm = λ f g. fun_ext (conv_comm f g);
    one_mul = λ f. fun_ext (λ k. conv_const 𝟙 f k ∙ one_mul (f k));
    mul_add = λ f g h. fun_ext (conv_add f g h);
  }

  -- no coefficient from place n on
  pub record Short (n : ℕ) (f : ℕ → R) : Type 0 where
    pub out : (k : ℕ) → n ≤ k → f k ≡ 𝟘

  -- the product beyond the degrees
  pub conv_out : (d e : ℕ) (f g : ℕ → R) → ((k : ℕ) → d < k → f k ≡ 𝟘) → ((k : ℕ) → e < k → g k ≡ 𝟘) → (k : ℕ) → d +ℕ e < k → conv f g k ≡ 𝟘
  conv_out d e f g zf zg zero h = absurd (omega arith)
  conv_out zero e f g zf zg (suc k) h =
      ap₂ (λ x y. f 0 * x + y) (zg (suc k) (omega arith)) (conv_zero (λ i. f (suc i)) g (λ i. zf (suc i) (omega arith)) k)
      ∙ simp (mul_zero 𝓡, zero_add)
  conv_out (suc d) e f g zf zg (suc k) h =
      ap₂ (λ x y. f 0 * x + y) (zg (suc k) (omega arith)) (conv_out d e (λ i. f (suc i)) g (λ k l. zf (suc k) (omega arith)) zg k
      (omega arith)) ∙ simp (mul_zero 𝓡, zero_add)

module _ {R : Type 0} (𝓡 : CRing R) where
  open series 𝓡 use {add as ◌+◌, mul as ◌*◌, neg as -◌}

  infixl 65 ◌+◌
  infixl 70 ◌*◌
  infix 75 -◌
  pub conv_short : (a b : ℕ) (f g : ℕ → R) → Short 𝓡 a f → Short 𝓡 (suc b) g → Short 𝓡 (a +ℕ b) (f * g)
  conv_short zero b f g zf zg = record { out = λ k l. conv_zero 𝓡 f g (λ i. zf.out i (omega arith)) k }
  conv_short (suc a) b f g zf zg = record {
    out = λ k l. conv_out 𝓡 a b f g (λ k l. zf.out k (omega arith))
        (λ k l. zg.out k (omega arith)) k (omega arith);
  }

  -- a polynomial
  pub record Finite (f : ℕ → R) : Type 0 where
    pub size : ℕ
    pub short : Short 𝓡 size f

  pub fin_add : {f g : ℕ → R} → Finite f → Finite g → Finite (f + g)
  fin_add F G = record {
    size = F.size +ℕ G.size;
    short = record { out = λ k l. ap₂ 𝓡.add (F.short.out k (omega arith)) (G.short.out k (omega arith)) ∙ 𝓡.zero_add 𝓡.nil };
  }

  pub fin_mul : {f g : ℕ → R} → Finite f → Finite g → Finite (f * g)
  fin_mul {f} {g} F G = record {
    size = F.size +ℕ G.size;
    short = conv_short F.size G.size f g F.short (record { out = λ k l. G.short.out k (omega arith) });
  }

  pub fin_neg : {f : ℕ → R} → Finite f → Finite (- f)
  fin_neg F = record { size = F.size; short = record { out = λ k l. ap 𝓡.neg (F.short.out k l) ∙ neg_zero 𝓡 } }

  pub fin_const : (x : R) → Finite (const 𝓡 x)
  fin_const x = record { size = 1; short = record { out = go } }
    where
      go : (k : ℕ) → 1 ≤ k → const 𝓡 x k ≡ 𝓡.nil
      go zero h = absurd (omega arith)
      go (suc k) h = refl

  pub const_mul : (a b : R) → const 𝓡 a * const 𝓡 b ≡ const 𝓡 (𝓡.mul a b)
  const_mul a b = fun_ext (λ k. conv_const 𝓡 a (const 𝓡 b) k ∙ go k)
    where
      go : (k : ℕ) → 𝓡.mul a (const 𝓡 b k) ≡ const 𝓡 (𝓡.mul a b) k
      go zero = refl
      go (suc k) = mul_zero 𝓡 a

module _ {R S : Type 0} (𝓡 : CRing R) (𝓢 : CRing S) (φ : R → S) (H : Hom 𝓡 𝓢 φ) where
  pub conv_hom : (f g : ℕ → R) (c : ℕ) → φ (conv 𝓡 f g c) ≡ conv 𝓢 (λ i. φ (f i)) (λ i. φ (g i)) c
  conv_hom f g zero = H.h_mul (f 0) (g 0)
  conv_hom f g (suc c) = H.h_add _ _ ∙ ap₂ 𝓢.add (H.h_mul (f 0) (g (suc c))) (conv_hom (λ i. f (suc i)) g c)
