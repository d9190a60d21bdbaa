-- The resultant over a ring in sent degrees, the constant first, and its laws R1 to R5 and R7. Only the coefficients up to the sent degrees
-- count; the top one may be 0.
--
--   Rs 𝓡 d e f g                        the resultant, f in degree d and g in degree e
--   Rs_drop_first, Rs_drop_second        R1: the top coefficient of f, of g, is 0
--   Rs_scale_first, Rs_scale_second      R2: a constant factor
--   Rs_add_first, Rs_add_second          R3: q f added to g
--   Rs_swap, Rs_swap_next                R4: the two exchanged; degrees s + 1 and s need no sign
--   Rs_reverse                           R5: both read from the other end
--   Rs_const_first, Rs_const_second      a constant
--   Rs_pad_second                        k zeros above g
--   Rs_divide, Rs_short                  g = q f + r, for any leading coefficient of f; g shorter than f
--   Rs_monic, Rs_monic_short             R7: the same, f monic
--
-- Letters: d, e are the sent degrees of f and g; k that of q; s + 1 that of a divisor.
use Rattle.std.specs.Prelude.{◌≡◌, refl}
use Rattle.std.proofs.Common.{sym, ◌∙◌, ap₂, arith}
use Rattle.std.proofs.Math.Path.{ap, fun_ext}
use Prim.Native.Nat.{ℕ, zero, suc, ◌<◌, ◌≤◌, ◌+◌ as ◌+ℕ◌, ◌-◌ as ◌-ℕ◌, ◌*◌ as ◌*ℕ◌}
use Rattle.law_algebra.specs.Determinant.{prod_const, det, det_upper}
use Rattle.law_algebra.specs.LeadingLaws.{res_drop_first, res_drop_second, res_scale_first}
use Rattle.law_algebra.specs.LeadingLaws.{res_scale_second, res_swap, res_reverse, res_add}
use Rattle.law_algebra.specs.Resultant.{shift, res, shift_low, shift_own}
use Rattle.law_algebra.specs.Reverse.{rv, rv_out, rv_zero, conv_rv, rv_add, rv_scale}
use Rattle.law_algebra.specs.Ring.{CRing, pw, pw_one}
use Rattle.law_algebra.specs.Series.{conv}
use Rattle.law_algebra.specs.Stack.{stack_top, up_is, stack, up}
use Rattle.law_algebra.specs.Sum.{sgn, sgn_next}

-- f in degree d, g in degree e
abbrev pub Rs : {R : Type 0} → CRing R → ℕ → ℕ → (ℕ → R) → (ℕ → R) → R
Rs 𝓡 d e f g = res 𝓡 e d (rv 𝓡 d f) (rv 𝓡 e g)

module _ {R : Type 0} (𝓡 : CRing R) where
  open 𝓡 use {add as ◌+◌, mul as ◌*◌, nil as 𝟘, unit as 𝟙, mul_assoc, one_mul}

  infixl 65 ◌+◌
  infixl 70 ◌*◌
  -- R1
  pub Rs_drop_first : (d e : ℕ) (f g : ℕ → R) → f (suc d) ≡ 𝟘 → Rs 𝓡 (suc d) e f g ≡ sgn 𝓡 e (g e * Rs 𝓡 d e f g)
  Rs_drop_first d e f g z = res_drop_first 𝓡 e d (rv 𝓡 (suc d) f) (rv 𝓡 e g) z ∙ ap (λ x. sgn 𝓡 e (x * Rs 𝓡 d e f g)) (rv_zero 𝓡 e g)

  pub Rs_drop_second : (d e : ℕ) (f g : ℕ → R) → g (suc e) ≡ 𝟘 → Rs 𝓡 d (suc e) f g ≡ f d * Rs 𝓡 d e f g
  Rs_drop_second d e f g z = res_drop_second 𝓡 e d (rv 𝓡 d f) (rv 𝓡 (suc e) g) z ∙ ap (λ x. x * Rs 𝓡 d e f g) (rv_zero 𝓡 d f)

  -- R2
  pub Rs_scale_first : (d e : ℕ) (x : R) (f g : ℕ → R) → Rs 𝓡 d e (λ i. x * f i) g ≡ pw 𝓡 x e * Rs 𝓡 d e f g
  Rs_scale_first d e x f g = ap (λ (u : ℕ → R). res 𝓡 e d u (rv 𝓡 e g)) (fun_ext (rv_scale 𝓡 x d f))
      ∙ res_scale_first 𝓡 e d x (rv 𝓡 d f) (rv 𝓡 e g)

  pub Rs_scale_second : (d e : ℕ) (x : R) (f g : ℕ → R) → Rs 𝓡 d e f (λ i. x * g i) ≡ pw 𝓡 x d * Rs 𝓡 d e f g
  Rs_scale_second d e x f g = ap (λ (u : ℕ → R). res 𝓡 e d (rv 𝓡 d f) u) (fun_ext (rv_scale 𝓡 x e g))
      ∙ res_scale_second 𝓡 e d x (rv 𝓡 d f) (rv 𝓡 e g)

  -- R4
  pub Rs_swap : (d e : ℕ) (f g : ℕ → R) → Rs 𝓡 d e f g ≡ sgn 𝓡 (d *ℕ e) (Rs 𝓡 e d g f)
  Rs_swap d e f g = res_swap 𝓡 e d (rv 𝓡 d f) (rv 𝓡 e g)

  -- R5
  pub Rs_reverse : (d e : ℕ) (f g : ℕ → R) → Rs 𝓡 d e (rv 𝓡 d f) (rv 𝓡 e g) ≡ sgn 𝓡 (e *ℕ d) (Rs 𝓡 d e f g)
  Rs_reverse d e f g = res_reverse 𝓡 e d (rv 𝓡 d f) (rv 𝓡 e g) (λ k l. rv_out 𝓡 d f k l) (λ k l. rv_out 𝓡 e g k l)

  -- R3: q of degree k, f of degree d
  pub Rs_add_first : (d k : ℕ) (f g q : ℕ → R) → ((i : ℕ) → d < i → f i ≡ 𝟘) → ((i : ℕ) → k < i → q i ≡ 𝟘)
      → Rs 𝓡 (k +ℕ d) d (λ i. conv 𝓡 q f i + g i) f ≡ Rs 𝓡 (k +ℕ d) d g f
  Rs_add_first d k f g q zf zq =
      ap₂ (λ (n : ℕ) (u : ℕ → R). res 𝓡 d n u (rv 𝓡 d f)) (sym (up_is k d))
      (fun_ext (λ i. rv_add 𝓡 (k +ℕ d) (conv 𝓡 q f) g i ∙ ap (λ x. x + rv 𝓡 (k +ℕ d) g i) (sym (conv_rv 𝓡 k d q f zq zf i))))
      ∙ res_add 𝓡 d k (rv 𝓡 d f) (rv 𝓡 (k +ℕ d) g) (rv 𝓡 k q) (λ i l. rv_out 𝓡 k q i l)
      ∙ ap (λ (n : ℕ). res 𝓡 d n (rv 𝓡 (k +ℕ d) g) (rv 𝓡 d f)) (up_is k d)

  pub Rs_add_second : (d k : ℕ) (f g q : ℕ → R) → ((i : ℕ) → d < i → f i ≡ 𝟘) → ((i : ℕ) → k < i → q i ≡ 𝟘)
      → Rs 𝓡 d (k +ℕ d) f (λ i. conv 𝓡 q f i + g i) ≡ Rs 𝓡 d (k +ℕ d) f g
  Rs_add_second d k f g q zf zq =
      Rs_swap d (k +ℕ d) f (λ i. conv 𝓡 q f i + g i) ∙ ap (sgn 𝓡 (d *ℕ (k +ℕ d))) (Rs_add_first d k f g q zf zq)
      ∙ sym (Rs_swap d (k +ℕ d) f g)

  -- the constants
  pub Rs_const_first : (e : ℕ) (f g : ℕ → R) → Rs 𝓡 0 e f g ≡ pw 𝓡 (f 0) e
  unfolding res
  Rs_const_first e f g =
      ap (λ (k : ℕ). det 𝓡 k m) (up_nought e)
      ∙ det_upper 𝓡 e m (λ r c p q. ap (λ (v : ℕ → R). v c) (stack_top e a b r p) ∙ shift_low 𝓡 r c (rv 𝓡 0 f) q)
      ∙ prod_const 𝓡 e (λ i. m i i) (f 0) (λ i l. ap (λ (v : ℕ → R). v i) (stack_top e a b i l) ∙ shift_own 𝓡 i (rv 𝓡 0 f))
    where
      a : ℕ → ℕ → R
      a i = shift 𝓡 i (rv 𝓡 0 f)

      b : ℕ → ℕ → R
      b i = shift 𝓡 i (rv 𝓡 e g)

      m : ℕ → ℕ → R
      m = stack e a b

      up_nought : (e : ℕ) → up e 0 ≡ e
      up_nought zero = refl
      up_nought (suc e) = ap suc (up_nought e)

  pub Rs_const_second : (d : ℕ) (f g : ℕ → R) → Rs 𝓡 d 0 f g ≡ pw 𝓡 (g 0) d
  Rs_const_second d f g = Rs_swap d 0 f g ∙ ap (λ (k : ℕ). sgn 𝓡 k (Rs 𝓡 0 d g f)) (none d) ∙ Rs_const_first d g f
    where
      none : (d : ℕ) → d *ℕ 0 ≡ 0
      none d = omega arith

  -- k zeros above the place e of g
  pub Rs_pad_second : (d k e : ℕ) (f g : ℕ → R) → ((i : ℕ) → e < i → g i ≡ 𝟘) → Rs 𝓡 d (k +ℕ e) f g ≡ pw 𝓡 (f d) k * Rs 𝓡 d e f g
  Rs_pad_second d k e f g z = ap (λ (n : ℕ). Rs 𝓡 d n f g) (sym (up_is k e)) ∙ go k
    where
      go : (k : ℕ) → Rs 𝓡 d (up k e) f g ≡ pw 𝓡 (f d) k * Rs 𝓡 d e f g
      go zero = sym (one_mul (Rs 𝓡 d e f g))
      go (suc k) =
          Rs_drop_second d (up k e) f g (z (suc (up k e)) (omega (arith, up_is k e))) ∙ ap (λ x. f d * x) (go k)
          ∙ sym (mul_assoc (f d) (pw 𝓡 (f d) k) (Rs 𝓡 d e f g))

  pub Rs_swap_next : (s : ℕ) (f g : ℕ → R) → Rs 𝓡 (suc s) s f g ≡ Rs 𝓡 s (suc s) g f
  Rs_swap_next s f g = Rs_swap (suc s) s f g ∙ ap (λ (k : ℕ). sgn 𝓡 k (Rs 𝓡 s (suc s) g f)) (round s) ∙ sgn_next 𝓡 s (Rs 𝓡 s (suc s) g f)
    where
      round : (s : ℕ) → suc s *ℕ s ≡ s *ℕ suc s
      round s = omega arith

  -- a division g = q f + r, f of degree s + 1, r of degree s at most
  pub Rs_divide : (s k : ℕ) (f q r : ℕ → R) → ((i : ℕ) → suc s < i → f i ≡ 𝟘) → ((i : ℕ) → k < i → q i ≡ 𝟘) → ((i : ℕ) → s < i → r i ≡ 𝟘)
      → Rs 𝓡 (suc s) (k +ℕ suc s) f (λ i. conv 𝓡 q f i + r i) ≡ pw 𝓡 (f (suc s)) (suc k) * Rs 𝓡 s (suc s) r f
  Rs_divide s k f q r zf zq zr =
      Rs_add_second (suc s) k f r q zf zq ∙ ap (λ (n : ℕ). Rs 𝓡 (suc s) n f r) (round s k) ∙ Rs_pad_second (suc s) (suc k) s f r zr
      ∙ ap (λ x. pw 𝓡 (f (suc s)) (suc k) * x) (Rs_swap_next s f r)
    where
      round : (s k : ℕ) → k +ℕ suc s ≡ suc k +ℕ s
      round s k = omega arith

  -- no division: g shorter than f
  pub Rs_short : (s k e : ℕ) (f g : ℕ → R) → k +ℕ e ≡ s → ((i : ℕ) → e < i → g i ≡ 𝟘)
      → Rs 𝓡 s (suc s) g f ≡ pw 𝓡 (f (suc s)) k * Rs 𝓡 (suc s) e f g
  Rs_short s k e f g h z = sym (Rs_swap_next s f g) ∙ ap (λ (n : ℕ). Rs 𝓡 (suc s) n f g) (sym h) ∙ Rs_pad_second (suc s) k e f g z

  -- R7: f monic
  pub Rs_monic : (s k : ℕ) (f q r : ℕ → R) → f (suc s) ≡ 𝟙 → ((i : ℕ) → suc s < i → f i ≡ 𝟘) → ((i : ℕ) → k < i → q i ≡ 𝟘)
      → ((i : ℕ) → s < i → r i ≡ 𝟘)
      → Rs 𝓡 (suc s) (k +ℕ suc s) f (λ i. conv 𝓡 q f i + r i) ≡ Rs 𝓡 s (suc s) r f
  Rs_monic s k f q r h zf zq zr = Rs_divide s k f q r zf zq zr ∙ ap (λ x. x * Rs 𝓡 s (suc s) r f) (pw_one 𝓡 (f (suc s)) h (suc k))
      ∙ one_mul _

  pub Rs_monic_short : (s e : ℕ) (f g : ℕ → R) → e ≤ s → f (suc s) ≡ 𝟙 → ((i : ℕ) → e < i → g i ≡ 𝟘)
      → Rs 𝓡 (suc s) e f g ≡ Rs 𝓡 s (suc s) g f
  Rs_monic_short s e f g l h z = sym (Rs_short s (s -ℕ e) e f g (omega arith) z
      ∙ ap (λ x. x * Rs 𝓡 (suc s) e f g) (pw_one 𝓡 (f (suc s)) h (s -ℕ e)) ∙ one_mul _)
