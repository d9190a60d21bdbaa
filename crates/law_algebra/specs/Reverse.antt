-- Polynomials read from the other end: between constant first and leading coefficient first.
--
--   rv d f          f d, …, f 0, then zeros
--   shift_rv        an entry of Sylvester's matrix, from both ends
--   conv_rv         a product, read from the other end
--
-- Letters: f, g are series; d, e their degrees.
use Rattle.std.specs.Prelude.{◌≡◌, refl, ℕ, zero, suc, ◌<◌, ◌≤◌, ◌+◌ as ◌+ℕ◌, ◌-◌ as ◌-ℕ◌}
use Rattle.std.proofs.Common.{sym, ◌∙◌, ap, arith}
use Rattle.std.proofs.Math.Decide.{dec_le}
use Rattle.law_algebra.specs.Resultant.{shift, act_conv, shift_low, shift_at}
use Rattle.law_algebra.specs.Ring.{CRing, mul_zero, Hom}
use Rattle.law_algebra.specs.Series.{conv, conv_out}
use Rattle.law_algebra.specs.Sum.{sum, sum_cong, sum_last}

module _ {R : Type 0} (𝓡 : CRing R) where
  open 𝓡 use {add as ◌+◌, mul as ◌*◌, nil as 𝟘, zero_add}

  infixl 65 ◌+◌
  infixl 70 ◌*◌
  -- f d, …, f 0, then zeros
  abbrev pub rv : ℕ → (ℕ → R) → ℕ → R
  rv zero f zero = f zero
  rv zero f (suc i) = 𝟘
  rv (suc d) f zero = f (suc d)
  rv (suc d) f (suc i) = rv d f i

  pub rv_at : (d : ℕ) (f : ℕ → R) (i j : ℕ) → i +ℕ j ≡ d → rv d f i ≡ f j
  rv_at zero f zero j h = ap f (omega arith)
  rv_at zero f (suc i) j h = absurd (omega arith)
  rv_at (suc d) f zero j h = ap f (omega arith)
  rv_at (suc d) f (suc i) j h = rv_at d f i j (omega arith)

  pub rv_out : (d : ℕ) (f : ℕ → R) (i : ℕ) → d < i → rv d f i ≡ 𝟘
  rv_out zero f zero h = absurd (omega arith)
  rv_out zero f (suc i) h = refl
  rv_out (suc d) f zero h = absurd (omega arith)
  rv_out (suc d) f (suc i) h = rv_out d f i (omega arith)

  pub rv_zero : (d : ℕ) (f : ℕ → R) → rv d f 0 ≡ f d
  rv_zero zero f = refl
  rv_zero (suc d) f = refl

  pub rv_mul : (d : ℕ) (f g : ℕ → R) (i : ℕ) → rv d (λ k. f k * g k) i ≡ rv d f i * rv d g i
  rv_mul zero f g zero = refl
  rv_mul zero f g (suc i) = sym (mul_zero 𝓡 𝟘)
  rv_mul (suc d) f g zero = refl
  rv_mul (suc d) f g (suc i) = rv_mul d f g i

  pub rv_scale : (x : R) (d : ℕ) (f : ℕ → R) (i : ℕ) → rv d (λ k. x * f k) i ≡ x * rv d f i
  rv_scale x zero f zero = refl
  rv_scale x zero f (suc i) = sym (mul_zero 𝓡 x)
  rv_scale x (suc d) f zero = refl
  rv_scale x (suc d) f (suc i) = rv_scale x d f i

  pub rv_add : (d : ℕ) (f g : ℕ → R) (i : ℕ) → rv d (λ k. f k + g k) i ≡ rv d f i + rv d g i
  rv_add zero f g zero = refl
  rv_add zero f g (suc i) = sym (zero_add 𝟘)
  rv_add (suc d) f g zero = refl
  rv_add (suc d) f g (suc i) = rv_add d f g i

  pub sum_rv : (d : ℕ) (f : ℕ → R) → sum 𝓡 (suc d) (rv d f) ≡ sum 𝓡 (suc d) f
  sum_rv zero f = refl
  sum_rv (suc d) f = ap (λ x. f (suc d) + x) (sum_rv d f) ∙ sym (sum_last 𝓡 (suc d) f)

  -- the same entry from both ends
  pub shift_rv : (e : ℕ) (g : ℕ → R) → ((k : ℕ) → e < k → g k ≡ 𝟘) → (i j c c' : ℕ) → c +ℕ c' ≡ i +ℕ j +ℕ e
      → shift 𝓡 i (rv e g) c ≡ shift 𝓡 j g c'
  shift_rv e g z i j c c' h = go (dec_le i c) (dec_le j c')
    where
      go : Dec (i ≤ c) → Dec (j ≤ c') → shift 𝓡 i (rv e g) c ≡ shift 𝓡 j g c'
      go (yes p) (yes q) =
          shift_at 𝓡 i (rv e g) c (c -ℕ i) (omega arith) ∙ rv_at e g (c -ℕ i) (c' -ℕ j) (omega arith)
          ∙ sym (shift_at 𝓡 j g c' (c' -ℕ j) (omega arith))
      go (yes p) (no q) = shift_at 𝓡 i (rv e g) c (c -ℕ i) (omega arith) ∙ rv_out e g (c -ℕ i) (omega arith)
          ∙ sym (shift_low 𝓡 j c' g (omega arith))
      go (no p) (yes q) = shift_low 𝓡 i c (rv e g) (omega arith)
          ∙ sym (shift_at 𝓡 j g c' (c' -ℕ j) (omega arith) ∙ z (c' -ℕ j) (omega arith))
      go (no p) (no q) = absurd (omega arith)

  -- the product, read from the other end
  pub conv_rv : (d e : ℕ) (f g : ℕ → R) → ((k : ℕ) → d < k → f k ≡ 𝟘) → ((k : ℕ) → e < k → g k ≡ 𝟘)
      → (c : ℕ) → conv 𝓡 (rv d f) (rv e g) c ≡ rv (d +ℕ e) (conv 𝓡 f g) c
  conv_rv d e f g zf zg c = go (dec_le c (d +ℕ e))
    where
      go : Dec (c ≤ d +ℕ e) → conv 𝓡 (rv d f) (rv e g) c ≡ rv (d +ℕ e) (conv 𝓡 f g) c
      go (yes l) =
          sym (act_conv 𝓡 (suc d) (rv d f) (rv e g) (λ k p. rv_out d f k (omega arith)) c)
          ∙ sum_cong 𝓡 (suc d) _ (rv d (λ k. f k * shift 𝓡 k g (d +ℕ e -ℕ c)))
          (λ k p. ap (λ x. rv d f k * x) (shift_rv e g zg k (d -ℕ k) c (d +ℕ e -ℕ c) (omega arith)
          ∙ sym (rv_at d (λ k. shift 𝓡 k g (d +ℕ e -ℕ c)) k (d -ℕ k) (omega arith))) ∙ sym (rv_mul d f (λ k. shift 𝓡 k g (d +ℕ e -ℕ c)) k))
          ∙ sum_rv d (λ k. f k * shift 𝓡 k g (d +ℕ e -ℕ c))
          ∙ act_conv 𝓡 (suc d) f g (λ k p. zf k (omega arith)) (d +ℕ e -ℕ c)
          ∙ sym (rv_at (d +ℕ e) (conv 𝓡 f g) c (d +ℕ e -ℕ c) (omega arith))
      go (no l) =
          conv_out 𝓡 d e (rv d f) (rv e g) (λ k p. rv_out d f k p) (λ k p. rv_out e g k p) c (omega arith)
          ∙ sym (rv_out (d +ℕ e) (conv 𝓡 f g) c (omega arith))

module _ {R S : Type 0} (𝓡 : CRing R) (𝓢 : CRing S) (φ : R → S) (H : Hom 𝓡 𝓢 φ) where
  pub rv_hom : (d : ℕ) (f : ℕ → R) (i : ℕ) → φ (rv 𝓡 d f i) ≡ rv 𝓢 d (λ k. φ (f k)) i
  rv_hom zero f zero = refl
  rv_hom zero f (suc i) = H.h_zero
  rv_hom (suc d) f zero = refl
  rv_hom (suc d) f (suc i) = rv_hom d f i
