-- Sylvester's matrix and the resultant over a ring, the leading coefficients first, and the map of rings. The order of the arguments is
-- that of the rows.
--
--   shift i f       i zeros, then f
--   sylvester m g f m rows of g, each one place further right, above the rows of f
--   res m n g f     its determinant, with n rows of f: g of degree n, f of degree m
--   res_hom, res_mod    a map of rings, and the integers modulo k + 1
--
-- Letters: f, g, h are series, the leading coefficient first; m, n numbers of rows; i a row, c a column.
use Rattle.std.specs.Prelude.{◌≡◌, refl, ℕ, zero, suc, ◌<◌, ◌≤◌, ◌+◌ as ◌+ℕ◌, ℤ}
use Rattle.std.proofs.Common.{sym, ◌∙◌, ap₂, arith}
use Rattle.std.proofs.Math.Path.{ap, fun_ext}
use Rattle.law_algebra.specs.Determinant.{det, det_hom}
use Rattle.law_algebra.specs.Integers.{ℤ_ring}
use Rattle.law_algebra.specs.MatrixProduct.{act}
use Rattle.law_algebra.specs.Reduction.{reduce, reduce_hom}
use Rattle.law_algebra.specs.Residues.{Res_ring}
use Rattle.law_algebra.specs.Ring.{CRing, add_zero, mul_zero, Hom, zero_mul}
use Rattle.law_algebra.specs.Series.{conv_zero, conv}
use Rattle.law_algebra.specs.Stack.{up_is, stack, up}
use Rattle.law_algebra.specs.Sum.{sum_zero}

module _ {R : Type 0} (𝓡 : CRing R) where
  open 𝓡 use {add as ◌+◌, mul as ◌*◌, nil as 𝟘, zero_add}

  infixl 65 ◌+◌
  infixl 70 ◌*◌
  -- i zeros, then f
  abbrev pub shift : ℕ → (ℕ → R) → ℕ → R
  shift zero f c = f c
  shift (suc i) f zero = 𝟘
  shift (suc i) f (suc c) = shift i f c

  pub shift_zero : (i n : ℕ) (f : ℕ → R) → ((k : ℕ) → n ≤ k → f k ≡ 𝟘) → (k : ℕ) → up i n ≤ k → shift i f k ≡ 𝟘
  shift_zero zero n f z k l = z k l
  shift_zero (suc i) n f z zero l = refl
  shift_zero (suc i) n f z (suc k) l = shift_zero i n f z k (omega arith)

  pub shift_low : (i c : ℕ) (f : ℕ → R) → c < i → shift i f c ≡ 𝟘
  shift_low zero c f l = absurd (omega arith)
  shift_low (suc i) zero f l = refl
  shift_low (suc i) (suc c) f l = shift_low i c f (omega arith)

  pub shift_add : (i : ℕ) (f g : ℕ → R) (c : ℕ) → shift i (λ j. f j + g j) c ≡ shift i f c + shift i g c
  shift_add zero f g c = refl
  shift_add (suc i) f g zero = sym (zero_add 𝟘)
  shift_add (suc i) f g (suc c) = shift_add i f g c

  pub shift_own : (i : ℕ) (f : ℕ → R) → shift i f i ≡ f 0
  shift_own zero f = refl
  shift_own (suc i) f = shift_own i f

  pub shift_up : (n i c : ℕ) (f : ℕ → R) → shift (up n i) f (up n c) ≡ shift i f c
  shift_up zero i c f = refl
  shift_up (suc n) i c f = shift_up n i c f

  pub shift_at : (i : ℕ) (f : ℕ → R) (c j : ℕ) → i +ℕ j ≡ c → shift i f c ≡ f j
  shift_at zero f c j h = ap f (omega arith)
  shift_at (suc i) f zero j h = absurd (omega arith)
  shift_at (suc i) f (suc c) j h = shift_at i f c j (omega arith)

  pub shift_scale : (x : R) (i : ℕ) (f : ℕ → R) (c : ℕ) → shift i (λ j. x * f j) c ≡ x * shift i f c
  shift_scale x zero f c = refl
  shift_scale x (suc i) f zero = sym (mul_zero 𝓡 x)
  shift_scale x (suc i) f (suc c) = shift_scale x i f c

  pub shift_next : (i : ℕ) (f : ℕ → R) → f 0 ≡ 𝟘 → (c : ℕ) → shift i f (suc c) ≡ shift i (λ j. f (suc j)) c
  shift_next zero f z c = refl
  shift_next (suc i) f z zero = first i
    where
      first : (i : ℕ) → shift i f zero ≡ 𝟘
      first zero = z
      first (suc i) = refl
  shift_next (suc i) f z (suc c) = shift_next i f z c

  pub shift_first : (i : ℕ) (f : ℕ → R) → f 0 ≡ 𝟘 → shift i f 0 ≡ 𝟘
  shift_first zero f z = z
  shift_first (suc i) f z = refl

  pub conv_shift : (i : ℕ) (f h : ℕ → R) (c : ℕ) → conv 𝓡 (shift i f) h c ≡ shift i (conv 𝓡 f h) c
  conv_shift zero f h c = refl
  conv_shift (suc i) f h zero = zero_mul 𝓡 (h 0)
  conv_shift (suc i) f h (suc c) = ap₂ ◌+◌ (zero_mul 𝓡 (h (suc c))) (conv_shift i f h c) ∙ zero_add _

  -- a row of n entries, times the shifts of h
  pub act_conv : (n : ℕ) (f h : ℕ → R) → ((k : ℕ) → n ≤ k → f k ≡ 𝟘) → (c : ℕ) → act 𝓡 n (λ k. shift k h) f c ≡ conv 𝓡 f h c
  act_conv zero f h z c = sym (conv_zero 𝓡 f h (λ i. z i (omega arith)) c)
  act_conv (suc n) f h z zero = ap (λ x. f 0 * h 0 + x) (sum_zero 𝓡 n _ (λ i l. mul_zero 𝓡 (f (suc i)))) ∙ add_zero 𝓡 (f 0 * h 0)
  act_conv (suc n) f h z (suc c) = ap (λ x. f 0 * h (suc c) + x) (act_conv n (λ i. f (suc i)) h (λ k l. z (suc k) (omega arith)) c)

  -- x^i f times the shifts of h, from enough entries
  pub act_shift : (n d i : ℕ) (f h : ℕ → R) → ((k : ℕ) → d < k → f k ≡ 𝟘) → i +ℕ d < n → (c : ℕ)
      → act 𝓡 n (λ k. shift k h) (shift i f) c ≡ shift i (conv 𝓡 f h) c
  act_shift n d i f h z l c = act_conv n (shift i f) h (λ k p. shift_zero i (suc d) f (λ k q. z k q) k (omega (arith, up_is i (suc d)))) c
      ∙ conv_shift i f h c

  -- m rows of g (of degree n) above the rows of f (of degree m)
  abbrev pub sylvester : ℕ → (ℕ → R) → (ℕ → R) → ℕ → ℕ → R
  sylvester m g f = stack m (λ i. shift i g) (λ i. shift i f)

  unfoldable pub res : (m n : ℕ) → (ℕ → R) → (ℕ → R) → R
  res m n g f = det 𝓡 (up m n) (sylvester m g f)

module _ {R S : Type 0} (𝓡 : CRing R) (𝓢 : CRing S) (φ : R → S) (H : Hom 𝓡 𝓢 φ) where
  shift_hom : (i : ℕ) (f : ℕ → R) (c : ℕ) → φ (shift 𝓡 i f c) ≡ shift 𝓢 i (λ j. φ (f j)) c
  shift_hom zero f c = refl
  shift_hom (suc i) f zero = H.h_zero
  shift_hom (suc i) f (suc c) = shift_hom i f c

  sylvester_hom : (m : ℕ) (a b : ℕ → ℕ → R) (a' b' : ℕ → ℕ → S) → ((i c : ℕ) → φ (a i c) ≡ a' i c) → ((i c : ℕ) → φ (b i c) ≡ b' i c)
      → (r c : ℕ) → φ (stack m a b r c) ≡ stack m a' b' r c
  sylvester_hom zero a b a' b' h g r c = g r c
  sylvester_hom (suc m) a b a' b' h g zero c = h 0 c
  sylvester_hom (suc m) a b a' b' h g (suc r) c = sylvester_hom m (λ i. a (suc i)) b (λ i. a' (suc i)) b' (λ i. h (suc i)) g r c

  pub res_hom : (m n : ℕ) (g f : ℕ → R) → φ (res 𝓡 m n g f) ≡ res 𝓢 m n (λ i. φ (g i)) (λ i. φ (f i))
  unfolding res
  res_hom m n g f =
      det_hom 𝓡 𝓢 φ H (up m n) (sylvester 𝓡 m g f)
      ∙ ap (det 𝓢 (up m n)) (fun_ext (λ r. fun_ext (λ c. sylvester_hom m (λ i. shift 𝓡 i g) (λ i. shift 𝓡 i f)
      (λ i. shift 𝓢 i (λ j. φ (g j))) (λ i. shift 𝓢 i (λ j. φ (f j))) (λ i c. shift_hom i g c) (λ i c. shift_hom i f c) r c)))

pub res_mod : (k m n : ℕ) (g f : ℕ → ℤ) → reduce k (res ℤ_ring m n g f) ≡ res (Res_ring k) m n (λ i. reduce k (g i)) (λ i. reduce k (f i))
res_mod k m n g f = res_hom ℤ_ring (Res_ring k) (reduce k) (reduce_hom k) m n g f
