-- Division by a polynomial h of degree t whose leading coefficient has the inverse i: f = q h + r with r of t coefficients exists, and only
-- once. A monic h is the case i = 1.
--
--   conv_top                  the coefficient of a product at the sum of the degrees
--   Lead t h i                h is of degree t and i is the inverse of its leading coefficient
--   Quotient j t f h          q of j coefficients and r of t with f = q h + r
--   divide                    such q and r, for every f of j + t coefficients
--   divide_zero, divide_rest  q h + r = 0 leaves q = 0 and r = 0
--   divide_unique             two divisions of one f agree
--   monic_zero, monic_rest    divide_zero and divide_rest for a monic h
--
-- Letters: f is divided, h divides, q and r are quotient and remainder; n and j are lengths.
use Rattle.std.specs.Prelude.{◌≡◌, refl, [], ◌∷◌, ℕ, zero, suc, ◌≤◌, ◌+◌ as ◌+ℕ◌}
use Rattle.std.proofs.Common.{sym, ◌∙◌, ap, ap₂, arith}
use Rattle.std.proofs.Math.Decide.{ℕ_discrete}
use Rattle.law_algebra.specs.Normaliser.{by_ring, quote}
use Rattle.law_algebra.specs.Ring.{CRing, add_zero, add_neg, mul_zero, mul_one, neg_zero}
use Rattle.law_algebra.specs.Series.{Short, conv_zero, conv, series}

module _ {R : Type 0} (𝓡 : CRing R) where
  open 𝓡 use {add as ◌+◌, mul as ◌*◌, neg as -◌, nil as 𝟘, unit as 𝟙, add_comm, zero_add, mul_assoc, mul_comm}

  infixl 65 ◌+◌
  infixl 70 ◌*◌
  infix 75 -◌
  open series 𝓡 use {add as ◌⊞◌, mul as ◌⊠◌, neg as ⊟◌}

  infixl 65 ◌⊞◌
  infixl 70 ◌⊠◌
  infix 75 ⊟◌
  -- the coefficient at the sum of two degrees
  pub conv_top : (a t : ℕ) (q h : ℕ → R) → Short 𝓡 (suc a) q → Short 𝓡 (suc t) h → (k : ℕ) → k ≡ a +ℕ t → conv 𝓡 q h k ≡ q a * h t
  conv_top zero t q h zq zh zero e = ap (λ (i : ℕ). q 0 * h i) (omega arith)
  conv_top zero t q h zq zh (suc k) e =
      ap (λ y. q 0 * h (suc k) + y) (conv_zero 𝓡 (λ i. q (suc i)) h (λ i. zq.out (suc i) (omega arith)) k) ∙ add_zero 𝓡 _
      ∙ ap (λ (i : ℕ). q 0 * h i) (omega arith)
  conv_top (suc a) t q h zq zh zero e = absurd (omega arith)
  conv_top (suc a) t q h zq zh (suc k) e =
      ap₂ (λ x y. q 0 * x + y) (zh.out (suc k) (omega arith))
      (conv_top a t (λ i. q (suc i)) h (record { out = λ k l. zq.out (suc k) (omega arith) }) zh k (omega arith))
      ∙ ap (λ x. x + q (suc a) * h t) (mul_zero 𝓡 (q 0)) ∙ zero_add _

  pub record Lead (t : ℕ) (h : ℕ → R) (i : R) : Type 0 where
    pub inverse : h t * i ≡ 𝟙
    pub short : Short 𝓡 (suc t) h

  -- q h + r = 0, r shorter than h
  pub divide_zero : (n t : ℕ) (q h r : ℕ → R) (i : R) → Short 𝓡 n q → Lead t h i → Short 𝓡 t r → ((k : ℕ) → conv 𝓡 q h k + r k ≡ 𝟘)
      → (k : ℕ) → q k ≡ 𝟘
  divide_zero zero t q h r i zq m zr e k = zq.out k (omega arith)
  divide_zero (suc n) t q h r i zq m zr e k = divide_zero n t q h r i (record { out = less }) m zr e k
    where
      product : q n * h t ≡ 𝟘
      product =
          sym (conv_top n t q h zq m.short (n +ℕ t) refl)
          ∙ sym (add_zero 𝓡 _) ∙ ap (λ x. conv 𝓡 q h (n +ℕ t) + x) (sym (zr.out (n +ℕ t) (omega arith))) ∙ e (n +ℕ t)

      top : q n ≡ 𝟘
      top =
          sym (mul_one 𝓡 (q n)) ∙ ap (λ x. q n * x) (sym m.inverse) ∙ sym (mul_assoc (q n) (h t) i)
          ∙ ap (λ x. x * i) product ∙ mul_comm 𝟘 i ∙ mul_zero 𝓡 i

      less : (k : ℕ) → n ≤ k → q k ≡ 𝟘
      less k l = go (ℕ_discrete k n)
        where
          go : Dec (k ≡ n) → q k ≡ 𝟘
          go (yes p) = ap q p ∙ top
          go (no p) = zq.out k (omega arith)

  pub divide_rest : (n t : ℕ) (q h r : ℕ → R) (i : R) → Short 𝓡 n q → Lead t h i → Short 𝓡 t r → ((k : ℕ) → conv 𝓡 q h k + r k ≡ 𝟘)
      → (k : ℕ) → r k ≡ 𝟘
  divide_rest n t q h r i zq m zr e k =
      sym (zero_add (r k)) ∙ ap (λ x. x + r k) (sym (conv_zero 𝓡 q h (divide_zero n t q h r i zq m zr e) k)) ∙ e k

  pub monic_lead : (t : ℕ) (h : ℕ → R) → h t ≡ 𝟙 → Short 𝓡 (suc t) h → Lead t h 𝟙
  monic_lead t h m zh = record { inverse = mul_one 𝓡 (h t) ∙ m; short = zh }

  pub monic_zero : (n t : ℕ) (q h r : ℕ → R) → Short 𝓡 n q → h t ≡ 𝟙 → Short 𝓡 (suc t) h → Short 𝓡 t r → ((k : ℕ) → conv 𝓡 q h k + r k ≡ 𝟘)
      → (k : ℕ) → q k ≡ 𝟘
  monic_zero n t q h r zq m zh = divide_zero n t q h r 𝟙 zq (monic_lead t h m zh)

  pub monic_rest : (n t : ℕ) (q h r : ℕ → R) → Short 𝓡 n q → h t ≡ 𝟙 → Short 𝓡 (suc t) h → Short 𝓡 t r → ((k : ℕ) → conv 𝓡 q h k + r k ≡ 𝟘)
      → (k : ℕ) → r k ≡ 𝟘
  monic_rest n t q h r zq m zh = divide_rest n t q h r 𝟙 zq (monic_lead t h m zh)

  pub record Quotient (j t : ℕ) (f h : ℕ → R) : Type 0 where
    pub q : ℕ → R
    pub r : ℕ → R
    pub short_q : Short 𝓡 j q
    pub short_r : Short 𝓡 t r
    pub eq : (k : ℕ) → conv 𝓡 q h k + r k ≡ f k

  -- a, then f
  abbrev pub before : R → (ℕ → R) → ℕ → R
  before a f zero = a
  before a f (suc k) = f k

  -- f is its constant and x times the rest; the rest is divided, and what comes out too long loses a multiple of h
  pub divide : (j t : ℕ) (f h : ℕ → R) (i : R) → Short 𝓡 (j +ℕ t) f → Lead t h i → Quotient j t f h
  divide zero t f h i zf m = record {
    q = λ k. 𝟘;
    r = f;
    short_q = record { out = λ k l. refl };
    short_r = record { out = λ k l. zf.out k (omega arith) };
    eq = λ k. ap (λ x. x + f k) (conv_zero 𝓡 (λ k. 𝟘) h (λ k. refl) k) ∙ zero_add (f k);
  }
  divide (suc j) t f h i zf m = step (divide j t (λ k. f (suc k)) h i (record { out = λ k l. zf.out (suc k) (omega arith) }) m)
    where
      step : Quotient j t (λ k. f (suc k)) h → Quotient (suc j) t f h
      step d = record { q = before c d.q; r = rest; short_q = record { out = above }; short_r = record { out = over }; eq = eq }
        where
          long : ℕ → R
          long = before (f 0) d.r

          c : R
          c = long t * i

          rest : ℕ → R
          rest k = long k + (- (c * h k))

          above : (k : ℕ) → suc j ≤ k → before c d.q k ≡ 𝟘
          above zero l = absurd (omega arith)
          above (suc k) l = d.short_q.out k (omega arith)

          lead : c * h t ≡ long t
          lead = mul_assoc (long t) i (h t) ∙ ap (λ x. long t * x) (mul_comm i (h t) ∙ m.inverse) ∙ mul_one 𝓡 (long t)

          over : (k : ℕ) → t ≤ k → rest k ≡ 𝟘
          over k l = go (ℕ_discrete k t)
            where
              beyond : (k : ℕ) → suc t ≤ k → long k ≡ 𝟘
              beyond zero l = absurd (omega arith)
              beyond (suc k) l = d.short_r.out k (omega arith)

              go : Dec (k ≡ t) → rest k ≡ 𝟘
              go (yes p) = ap rest p ∙ ap (λ x. long t + (- x)) lead ∙ add_neg 𝓡 (long t)
              go (no p) =
                  ap₂ (λ x y. x + (- (c * y))) (beyond k (omega arith)) (m.short.out k (omega arith))
                  ∙ zero_add _ ∙ ap -◌ (mul_zero 𝓡 c) ∙ neg_zero 𝓡

          first : (x y : R) → x + (y + (- x)) ≡ y
          first x y = by_ring 𝓡 (x ∷ y ∷ []) (search quote depth 20) (search quote depth 20) refl

          other : (x y z : R) → x + y + (z + (- x)) ≡ y + z
          other x y z = by_ring 𝓡 (x ∷ y ∷ z ∷ []) (search quote depth 20) (search quote depth 20) refl

          eq : (k : ℕ) → conv 𝓡 (before c d.q) h k + rest k ≡ f k
          eq zero = first (c * h 0) (f 0)
          eq (suc k) = other (c * h (suc k)) (conv 𝓡 d.q h k) (d.r k) ∙ d.eq k

  difference : (a b h r s : ℕ → R) → (a ⊞ (⊟ b)) ⊠ h ⊞ (r ⊞ (⊟ s)) ≡ (a ⊠ h ⊞ r) ⊞ (⊟ (b ⊠ h ⊞ s))
  difference a b h r s = by_ring (series 𝓡) (a ∷ b ∷ h ∷ r ∷ s ∷ []) (search quote depth 20) (search quote depth 20) refl

  -- two divisions of one polynomial
  pub record Same (j t : ℕ) (f h : ℕ → R) (d d' : Quotient j t f h) : Type 0 where
    pub same_q : (k : ℕ) → d.q k ≡ d'.q k
    pub same_r : (k : ℕ) → d.r k ≡ d'.r k

  pub divide_unique : (j t : ℕ) (f h : ℕ → R) (i : R) → Lead t h i → (d d' : Quotient j t f h) → Same j t f h d d'
  divide_unique j t f h i m d d' = record {
    same_q = λ k. equal _ _ (divide_zero j t q h r i short_q m short_r eq k);
    same_r = λ k. equal _ _ (divide_rest j t q h r i short_q m short_r eq k);
  }
    where
      q : ℕ → R
      q k = d.q k + (- d'.q k)

      r : ℕ → R
      r k = d.r k + (- d'.r k)

      none : 𝟘 + (- 𝟘) ≡ 𝟘
      none = add_neg 𝓡 𝟘

      short_q : Short 𝓡 j q
      short_q = record { out = λ k l. ap₂ (λ x y. x + (- y)) (d.short_q.out k l) (d'.short_q.out k l) ∙ none }

      short_r : Short 𝓡 t r
      short_r = record { out = λ k l. ap₂ (λ x y. x + (- y)) (d.short_r.out k l) (d'.short_r.out k l) ∙ none }

      equal : (x y : R) → x + (- y) ≡ 𝟘 → x ≡ y
      equal x y z = apart x y ∙ ap (λ w. w + y) z ∙ zero_add y
        where
          apart : (x y : R) → x ≡ x + (- y) + y
          apart x y = by_ring 𝓡 (x ∷ y ∷ []) (search quote depth 20) (search quote depth 20) refl

      eq : (k : ℕ) → conv 𝓡 q h k + r k ≡ 𝟘
      eq k =
          ap (λ (w : ℕ → R). w k) (difference d.q d'.q h d.r d'.r)
          ∙ ap₂ (λ x y. x + (- y)) (d.eq k) (d'.eq k) ∙ add_neg 𝓡 (f k)
