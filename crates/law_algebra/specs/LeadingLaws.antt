-- The laws R1 to R5 of the resultant over a ring, the leading coefficients first. SentLaws says them with the constant first.
--
--   res_drop_first, res_drop_second      R1: a leading coefficient that is 0
--   res_scale_first, res_scale_second    R2: a constant factor
--   res_add                              R3: a multiple of one added to the other
--   res_swap                             R4: the two exchanged
--   res_reverse                          R5: both read from the other end
--
-- Letters: f is of degree n and has m rows, g is of degree m and has n rows.
use Rattle.std.specs.Prelude.{◌≡◌, refl}
use Rattle.std.proofs.Math.Path.{sym, ap, ap₂, fun_ext}
use Rattle.std.proofs.Common.{◌∙◌}
use Prim.Native.Nat.{ℕ, zero, suc, ◌<◌, ◌+◌ as ◌+ℕ◌, ◌-◌ as ◌-ℕ◌, ◌*◌ as ◌*ℕ◌}
use native.Mathlib.Omega.{arith}
use Rattle.law_algebra.specs.Block.{corner}
use Rattle.law_algebra.specs.Determinant.{det_cong, det}
use Rattle.law_algebra.specs.Form.{det_form, det_transpose}
use Rattle.law_algebra.specs.Index.{ins}
use Rattle.law_algebra.specs.MatrixProduct.{under}
use Rattle.law_algebra.specs.Resultant.{shift, sylvester, res, act_shift, shift_add, shift_first, shift_scale, shift_next}
use Rattle.law_algebra.specs.Reverse.{rv, shift_rv}
use Rattle.law_algebra.specs.Ring.{CRing, pw}
use Rattle.law_algebra.specs.Rows.{scale_all, stack_split, blocks, absorb_rows, over_stack, tri_add, rise, backward, tri, fix_rows}
use Rattle.law_algebra.specs.Series.{conv}
use Rattle.law_algebra.specs.Stack.{rows_cong, back_at, up, stack_all, up_suc, back, stack_map, up_is, stack}
use Rattle.law_algebra.specs.Sum.{sgn, sgn_add, sgn_even}

module _ {R : Type 0} (𝓡 : CRing R) where
  open 𝓡 use {add as ◌+◌, mul as ◌*◌, nil as 𝟘}

  infixl 65 ◌+◌
  infixl 70 ◌*◌
  -- R1: the first polynomial's leading coefficient is 0
  pub res_drop_first : (m n : ℕ) (f g : ℕ → R) → f 0 ≡ 𝟘 → res 𝓡 m (suc n) f g ≡ sgn 𝓡 m (g 0 * res 𝓡 m n (λ i. f (suc i)) g)
  unfolding res
  res_drop_first m n f g z =
      let b : ℕ → ℕ → R = stack m (λ i. shift 𝓡 i f) (λ i. shift 𝓡 (suc i) g) in
      ap₂ (λ (k : ℕ) (a : ℕ → ℕ → R). det 𝓡 k a) (up_suc m n) (fun_ext (stack_split 𝓡 m (λ i. shift 𝓡 i f) (λ i. shift 𝓡 i g)))
      ∙ rise 𝓡 (det_form 𝓡 (suc (up m n))) m (omega (arith, up_is m n)) g b
      ∙ ap (sgn 𝓡 m) (corner 𝓡 (up m n) (ins 0 g b) (λ i l. stack_all (λ r v. v 0 ≡ 𝟘) m n (λ i. shift 𝓡 i f) (λ i. shift 𝓡 (suc i) g)
      (λ i l. shift_first 𝓡 i f z) (λ i l. refl) i l)
      ∙ ap (λ (a : ℕ → ℕ → R). g 0 * det 𝓡 (up m n) a)
      (fun_ext (λ r. stack_map {Y = ℕ → R} (λ v c. v (suc c)) m (λ i. shift 𝓡 i f) (λ i. shift 𝓡 (suc i) g) r
      ∙ ap (λ (a : ℕ → ℕ → R). stack m a (λ i. shift 𝓡 i g) r) (fun_ext (λ i. fun_ext (λ c. shift_next 𝓡 i f z c))))))

  -- R1: the second polynomial's
  pub res_drop_second : (m n : ℕ) (f g : ℕ → R) → g 0 ≡ 𝟘 → res 𝓡 (suc m) n f g ≡ f 0 * res 𝓡 m n f (λ i. g (suc i))
  unfolding res
  res_drop_second m n f g z =
      corner 𝓡 (up m n) (sylvester 𝓡 (suc m) f g) (λ i l. stack_all (λ r v. v 0 ≡ 𝟘) m n (λ i. shift 𝓡 (suc i) f) (λ i. shift 𝓡 i g)
      (λ i l. refl) (λ i l. shift_first 𝓡 i g z) i l)
      ∙ ap (λ (a : ℕ → ℕ → R). f 0 * det 𝓡 (up m n) a)
      (fun_ext (λ r. stack_map {Y = ℕ → R} (λ v c. v (suc c)) m (λ i. shift 𝓡 (suc i) f) (λ i. shift 𝓡 i g) r
      ∙ ap (λ (a : ℕ → ℕ → R). stack m (λ i. shift 𝓡 i f) a r) (fun_ext (λ i. fun_ext (λ c. shift_next 𝓡 i g z c)))))

  -- R2
  pub res_scale_first : (m n : ℕ) (x : R) (f g : ℕ → R) → res 𝓡 m n (λ i. x * f i) g ≡ pw 𝓡 x m * res 𝓡 m n f g
  unfolding res
  res_scale_first m n x f g =
      let w : ℕ → ℕ → R = stack m (λ i. shift 𝓡 i f) (λ i. shift 𝓡 i g) in
      ap (det 𝓡 (up m n)) (fun_ext (λ r. ap (λ (a : ℕ → ℕ → R). stack m a (λ i. shift 𝓡 i g) r)
      (fun_ext (λ i. fun_ext (λ c. shift_scale 𝓡 x i f c)))
      ∙ sym (over_stack 𝓡 m (λ i c. x * shift 𝓡 i f c) (λ i. shift 𝓡 i f) (λ i. shift 𝓡 i g) r)))
      ∙ scale_all 𝓡 (under 𝓡 (det_form 𝓡 (up m n)) m (omega (arith, up_is m n)) w) x (λ i. shift 𝓡 i f)
      ∙ ap (λ (a : ℕ → ℕ → R). pw 𝓡 x m * det 𝓡 (up m n) a) (fun_ext
      (over_stack 𝓡 m (λ i. shift 𝓡 i f) (λ i. shift 𝓡 i f) (λ i. shift 𝓡 i g)))

  pub res_scale_second : (m n : ℕ) (x : R) (f g : ℕ → R) → res 𝓡 m n f (λ i. x * g i) ≡ pw 𝓡 x n * res 𝓡 m n f g
  unfolding res
  res_scale_second m n x f g =
      ap (λ (b : ℕ → ℕ → R). det 𝓡 (up m n) (stack m (λ i. shift 𝓡 i f) b)) (fun_ext (λ i. fun_ext (λ c. shift_scale 𝓡 x i g c)))
      ∙ scale_all 𝓡 (fix_rows 𝓡 m (det_form 𝓡 (up m n)) (λ i. shift 𝓡 i f)) x (λ i. shift 𝓡 i g)

  -- R3: f of degree m, q of degree d, g of degree d + m
  pub res_add : (m d : ℕ) (f g q : ℕ → R) → ((k : ℕ) → d < k → q k ≡ 𝓡.nil)
      → res 𝓡 m (up d m) (λ i. conv 𝓡 q f i + g i) f ≡ res 𝓡 m (up d m) g f
  unfolding res
  res_add m d f g q z =
      absorb_rows 𝓡 m (up d m) _ (det_form 𝓡 (up m (up d m))) (λ i. shift 𝓡 i q) (λ i. shift 𝓡 i g)
      (λ i. shift 𝓡 i (λ j. conv 𝓡 q f j + g j)) (λ i. shift 𝓡 i f)
      (λ i c l. shift_add 𝓡 i (conv 𝓡 q f) g c ∙ ap (λ y. y + shift 𝓡 i g c)
      (sym (act_shift 𝓡 (up d m) d i q f z (omega (arith, up_is d m)) c)))

  -- R4
  pub res_swap : (m n : ℕ) (f g : ℕ → R) → res 𝓡 m n f g ≡ sgn 𝓡 (n *ℕ m) (res 𝓡 n m g f)
  unfolding res
  res_swap m n f g =
      blocks 𝓡 (det_form 𝓡 (up m n)) m n (up_is m n) (λ i. shift 𝓡 i f) (λ i. shift 𝓡 i g)
      ∙ ap (λ (k : ℕ). sgn 𝓡 (n *ℕ m) (det 𝓡 k (sylvester 𝓡 n g f))) (round m n (up_is m n) (up_is n m))
    where
      round : (m n : ℕ) → up m n ≡ m +ℕ n → up n m ≡ n +ℕ m → up m n ≡ up n m
      round m n h g = omega arith

  -- R5: f of degree n and g of degree m, both read from the other end
  pub res_reverse : (m n : ℕ) (f g : ℕ → R) → ((k : ℕ) → n < k → f k ≡ 𝟘) → ((k : ℕ) → m < k → g k ≡ 𝟘)
      → res 𝓡 m n (rv 𝓡 n f) (rv 𝓡 m g) ≡ sgn 𝓡 (m *ℕ n) (res 𝓡 m n f g)
  unfolding res
  res_reverse m n f g zf zg =
      det_cong 𝓡 (up m n) _ (λ r c. back (up m n) (λ c. rotated r c) c) (λ r c p q.
      rows_cong c m n _ _ (λ i c. back (up m n) (λ c. back m (λ i. shift 𝓡 i f) i c) c)
      (λ i c. back (up m n) (λ c. back n (λ i. shift 𝓡 i g) i c) c)
      (λ i l. shift_rv 𝓡 n f zf i (m -ℕ suc i) c (up m n -ℕ suc c) (omega (arith, up_is m n))
      ∙ ap (λ (v : ℕ → R). v (up m n -ℕ suc c)) (sym (back_at m (λ i. shift 𝓡 i f) i (m -ℕ suc i) (omega arith)))
      ∙ sym (back_at (up m n) (λ c. back m (λ i. shift 𝓡 i f) i c) c (up m n -ℕ suc c) (omega arith)))
      (λ i l. shift_rv 𝓡 m g zg i (n -ℕ suc i) c (up m n -ℕ suc c) (omega (arith, up_is m n))
      ∙ ap (λ (v : ℕ → R). v (up m n -ℕ suc c)) (sym (back_at n (λ i. shift 𝓡 i g) i (n -ℕ suc i) (omega arith)))
      ∙ sym (back_at (up m n) (λ c. back n (λ i. shift 𝓡 i g) i c) c (up m n -ℕ suc c) (omega arith)))
      r p ∙ ap (λ (v : ℕ → R). v c) (sym (stack_map {Y = ℕ → R} (λ v c. back (up m n) v c) m (back m (λ i. shift 𝓡 i f))
      (back n (λ i. shift 𝓡 i g)) r)))
      ∙ sym (det_transpose 𝓡 (up m n) (λ r c. back (up m n) (λ c. rotated r c) c))
      ∙ det_cong 𝓡 (up m n) _ (back (up m n) (λ c r. rotated r c)) (λ c r p q. back_in (up m n) (λ c r. rotated r c) c r)
      ∙ backward 𝓡 (det_form 𝓡 (up m n)) (λ c r. rotated r c)
      ∙ ap (sgn 𝓡 (tri (up m n))) (det_transpose 𝓡 (up m n) rotated
      ∙ backward 𝓡 (fix_rows 𝓡 m (det_form 𝓡 (up m n)) (back m (λ i. shift 𝓡 i f))) (λ i. shift 𝓡 i g)
      ∙ ap (sgn 𝓡 (tri n)) (ap (det 𝓡 (up m n)) (sym (fun_ext
      (over_stack 𝓡 m (back m (λ i. shift 𝓡 i f)) (λ i. shift 𝓡 i f) (λ i. shift 𝓡 i g))))
      ∙ backward 𝓡 (under 𝓡 (det_form 𝓡 (up m n)) m (omega (arith, up_is m n)) (sylvester 𝓡 m f g)) (λ i. shift 𝓡 i f)
      ∙ ap (λ (a : ℕ → ℕ → R). sgn 𝓡 (tri m) (det 𝓡 (up m n) a))
      (fun_ext (over_stack 𝓡 m (λ i. shift 𝓡 i f) (λ i. shift 𝓡 i f) (λ i. shift 𝓡 i g)))))
      ∙ signs (det 𝓡 (up m n) (sylvester 𝓡 m f g))
    where
      rotated : ℕ → ℕ → R
      rotated = stack m (back m (λ i. shift 𝓡 i f)) (back n (λ i. shift 𝓡 i g))

      back_in : (n : ℕ) (a : ℕ → ℕ → R) (c r : ℕ) → back n (λ c. a c r) c ≡ back n a c r
      back_in zero a c r = refl
      back_in (suc n) a zero r = refl
      back_in (suc n) a (suc c) r = back_in n a c r

      parity : (m n : ℕ) → tri (up m n) +ℕ (tri n +ℕ tri m) ≡ m *ℕ n +ℕ (tri m +ℕ tri n +ℕ (tri m +ℕ tri n))
      parity m n = ap (λ (k : ℕ). tri k +ℕ (tri n +ℕ tri m)) (up_is m n) ∙ ap (λ (k : ℕ). k +ℕ (tri n +ℕ tri m)) (tri_add m n) ∙ omega arith

      signs : (x : R) → sgn 𝓡 (tri (up m n)) (sgn 𝓡 (tri n) (sgn 𝓡 (tri m) x)) ≡ sgn 𝓡 (m *ℕ n) x
      signs x =
          ap (sgn 𝓡 (tri (up m n))) (sym (sgn_add 𝓡 (tri n) (tri m) x)) ∙ sym (sgn_add 𝓡 (tri (up m n)) (tri n +ℕ tri m) x)
          ∙ ap (λ (k : ℕ). sgn 𝓡 k x) (parity m n) ∙ sgn_add 𝓡 (m *ℕ n) (tri m +ℕ tri n +ℕ (tri m +ℕ tri n)) x
          ∙ ap (sgn 𝓡 (m *ℕ n)) (sgn_even 𝓡 (tri m +ℕ tri n) x)
