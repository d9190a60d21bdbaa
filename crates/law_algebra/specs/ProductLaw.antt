-- R6, the law of products: the resultant of f g with h is the product of the two resultants. Over any ring it holds up to a power of a
-- leading coefficient (res_mul), over the integers where that is not 0, and over Z/n always: residues are lifted to integers, the leading
-- one so that it is not 0.
--
--   res_mul                    over any ring, leading coefficients first
--   res_mul_ℤ, Rs_mul_ℤ        over the integers; Rs as in SentLaws
--   res_mul_Res, Rs_mul        over Z/(m + 1), for all polynomials
--
-- Letters: in res_mul f, g, h are of degrees m, n, p and the product is g h; in Rs_mul f, g are of degrees a, b, h of degree e, and the
-- product is f g.
use Rattle.std.specs.Prelude.{◌≡◌, refl, ◌≢◌, ℤ, ◌*ℤ◌}
use Rattle.std.proofs.Math.Path.{sym, ap, ap₂, fun_ext}
use Rattle.std.proofs.Common.{◌∙◌, zero-lt-suc, arith}
use Prim.Native.Nat.{ℕ, zero, suc, ◌<◌, ◌≤◌, ◌+◌ as ◌+ℕ◌, ◌*◌ as ◌*ℕ◌}
use native.Mathlib.Fin
use Rattle.std.proofs.Math.Nat.{add-mul-mod_self_left, mod-eq_of_lt}
use Rattle.std.proofs.Math.IntN.{pos, nat_abs}
use Rattle.law_algebra.specs.Block.{det_block_upper, low_is}
use Rattle.law_algebra.specs.Determinant.{prod_const, det_upper, det, det_cong, prod_up}
use Rattle.law_algebra.specs.Form.{det_form, e, pull, unique, e_low, e_own}
use Rattle.law_algebra.specs.Integers.{ℤ_ring, cancel, no_divisors}
use Rattle.law_algebra.specs.MatrixProduct.{act_e, over, mmul, act_linear, det_over, act}
use Rattle.law_algebra.specs.Reduction.{reduce, reduce_hom}
use Rattle.law_algebra.specs.Residues.{Res, toRes, Res_ring}
use Rattle.law_algebra.specs.Resultant.{shift, sylvester, res, act_shift, shift_low, shift_own, shift_up, res_mod}
use Rattle.law_algebra.specs.Reverse.{rv, rv_out, rv_zero, conv_rv}
use Rattle.law_algebra.specs.Ring.{CRing, mul_left_comm, pw}
use Rattle.law_algebra.specs.Rows.{over_stack, fix_rows}
use Rattle.law_algebra.specs.SentLaws.{Rs}
use Rattle.law_algebra.specs.Series.{conv_hom, conv, conv_comm}
use Rattle.law_algebra.specs.Stack.{stack_stack, rows_cong, up_comm, up_swap, up, stack_all}
use Rattle.law_algebra.specs.Stack.{stack_bottom, stack_map, stack_top, stack_drop, up_is, stack}
use Rattle.law_algebra.specs.Sum.{sum_cong}

module _ {R : Type 0} (𝓡 : CRing R) where
  open 𝓡 use {mul as ◌*◌, nil as 𝟘}

  infixl 70 ◌*◌
  -- f, g, h of degrees m, n, p
  module _ (m n p : ℕ) (f g h : ℕ → R) (zf : (k : ℕ) → m < k → f k ≡ 𝟘) (zg : (k : ℕ) → n < k → g k ≡ 𝟘)
      (zh : (k : ℕ) → p < k → h k ≡ 𝟘) where
    low_f : ℕ → ℕ → R
    low_f i = shift 𝓡 (up n i) f

    top_h : ℕ → ℕ → R
    top_h i = shift 𝓡 i h

    wide : ℕ → ℕ → R
    wide = stack (up m n) top_h low_f

    act_wide : (v : ℕ → R) (c : ℕ) → act 𝓡 (up m n) wide v c ≡ act 𝓡 (up m n) top_h v c
    unfolding wide
    act_wide v c = sum_cong 𝓡 (up m n) _ _ (λ k l. ap (λ (w : ℕ → R). v k * w c) (stack_top (up m n) top_h low_f k l))

    -- the product of Sylvester's matrix of g and f with the shifts of h
    upper : det 𝓡 (up m (up n p)) (over 𝓡 (up m n) (mmul 𝓡 (up m n) (sylvester 𝓡 m g f) wide) wide)
        ≡ det 𝓡 (up m (up n p)) (stack m (λ i. shift 𝓡 i (conv 𝓡 g h)) (stack n (λ i. shift 𝓡 i (conv 𝓡 f h)) low_f))
    unfolding wide top_h
    upper = det_cong 𝓡 (up m (up n p)) _ _ (λ r c x y.
        ap (λ v. v c) (over_stack 𝓡 (up m n) _ top_h low_f r)
        ∙ ap (λ (a : ℕ → ℕ → R). stack (up m n) a low_f r c)
        (fun_ext (stack_map (act 𝓡 (up m n) wide) m (λ i. shift 𝓡 i g) (λ i. shift 𝓡 i f)))
        ∙ ap (λ v. v c) (stack_stack m n _ _ low_f r)
        ∙ rows_cong c m (up n p) _ _ (λ i. shift 𝓡 i (conv 𝓡 g h)) (stack n (λ i. shift 𝓡 i (conv 𝓡 f h)) low_f)
        (λ i l. act_wide (shift 𝓡 i g) c ∙ act_shift 𝓡 (up m n) n i g h zg (omega (arith, up_is m n)) c)
        (λ i l. rows_cong c n p _ low_f (λ i. shift 𝓡 i (conv 𝓡 f h)) low_f
        (λ i l. act_wide (shift 𝓡 i f) c ∙ act_shift 𝓡 (up m n) m i f h zf (omega (arith, up_is m n)) c) (λ i l. refl) i l) r x)

    -- the shifts of f · h are combinations of those of f
    tri : ℕ → ℕ → R
    tri = stack n top_h (λ i. e 𝓡 (up n i))

    tri_det : det 𝓡 (up n p) tri ≡ pw 𝓡 (h 0) n
    unfolding tri top_h
    tri_det =
        det_upper 𝓡 (up n p) tri (λ r c x y. stack_all (λ r v. (c : ℕ) → c < r → v c ≡ 𝟘) n p top_h (λ i. e 𝓡 (up n i))
        (λ i l c q. shift_low 𝓡 i c h q) (λ i l c q. e_low 𝓡 (up n i) c q) r x c y)
        ∙ prod_up 𝓡 n p (λ i. tri i i) (h 0) (λ i l. ap (λ (v : ℕ → R). v i) (stack_top n top_h _ i l) ∙ shift_own 𝓡 i h)
        (λ i l. ap (λ (v : ℕ → R). v (up n i)) (stack_bottom n top_h (λ i. e 𝓡 (up n i)) i) ∙ e_own 𝓡 (up n i))

    lower : det 𝓡 (up m (up n p)) (stack m (λ i. shift 𝓡 i (conv 𝓡 g h)) (stack n (λ i. shift 𝓡 i (conv 𝓡 f h)) low_f)) ≡ pw 𝓡
        (h 0) n * res 𝓡 m (up n p) (conv 𝓡 g h) f
    unfolding tri top_h low_f res
    lower =
        det_cong 𝓡 (up m (up n p)) _ _ (λ r c x y. rows_cong c m (up n p) (λ i. shift 𝓡 i (conv 𝓡 g h)) _ (λ i. shift 𝓡 i (conv 𝓡 g h))
        (λ i. act 𝓡 (up n p) (λ k. shift 𝓡 k f) (tri i)) (λ i l. refl)
        (λ i l. rows_cong c n p (λ i. shift 𝓡 i (conv 𝓡 f h)) low_f (λ i. act 𝓡 (up n p) (λ k. shift 𝓡 k f) (top_h i))
        (λ i. act 𝓡 (up n p) (λ k. shift 𝓡 k f) (e 𝓡 (up n i)))
        (λ i l. sym (act_shift 𝓡 (up n p) p i h f zh (omega (arith, up_is n p)) c
        ∙ ap (λ (v : ℕ → R). shift 𝓡 i v c) (fun_ext (conv_comm 𝓡 h f))))
        (λ i l. sym (act_e 𝓡 (up n p) (λ k. shift 𝓡 k f) (up n i) c (omega (arith, up_is n i, up_is n p)))) i l
        ∙ sym (ap (λ v. v c) (stack_map (act 𝓡 (up n p) (λ k. shift 𝓡 k f)) n top_h (λ i. e 𝓡 (up n i)) i))) r x)
        ∙ unique 𝓡 (up n p) (pull 𝓡 (fix_rows 𝓡 m (det_form 𝓡 (up m (up n p))) (λ i. shift 𝓡 i (conv 𝓡 g h)))
        (act_linear 𝓡 (up n p) (up m (up n p)) (λ k. shift 𝓡 k f))) tri
        ∙ ap₂ ◌*◌ tri_det (det_cong 𝓡 (up m (up n p)) _ _ (λ r c x y. rows_cong c m (up n p) (λ i. shift 𝓡 i (conv 𝓡 g h)) _
        (λ i. shift 𝓡 i (conv 𝓡 g h)) (λ i. shift 𝓡 i f) (λ i l. refl) (λ i l. act_e 𝓡 (up n p) (λ k. shift 𝓡 k f) i c l) r x))

    -- the first n columns of the wide matrix are 0 below the n-th row
    wide_low : (r c : ℕ) → c < n → n ≤ r → r < up (up m n) p → wide r c ≡ 𝟘
    unfolding wide top_h low_f
    wide_low r c x y z = stack_all (λ r v. n ≤ r → v c ≡ 𝟘) (up m n) p top_h low_f (λ i l q. shift_low 𝓡 i c h (omega arith))
        (λ i l q. shift_low 𝓡 (up n i) c f (omega (arith, up_is n i))) r z y

    wide_det : det 𝓡 (up m (up n p)) wide ≡ pw 𝓡 (h 0) n * res 𝓡 m p h f
    unfolding wide top_h low_f res
    wide_det =
        ap (λ (k : ℕ). det 𝓡 k wide) (up_swap m n p)
        ∙ det_block_upper 𝓡 n (up m p) wide (λ r c x y z. wide_low r c x y
        (omega (arith, up_is n (up m p), up_is m p, up_is (up m n) p, up_is m n)))
        ∙ ap₂ ◌*◌
        (det_upper 𝓡 n wide (λ r c x y. ap (λ (v : ℕ → R). v c) (stack_top (up m n) top_h low_f r (omega (arith, up_is m n)))
        ∙ shift_low 𝓡 r c h y)
        ∙ prod_const 𝓡 n (λ i. wide i i) (h 0) (λ i l. ap (λ (v : ℕ → R). v i) (stack_top (up m n) top_h low_f i (omega (arith, up_is m n)))
        ∙ shift_own 𝓡 i h))
        (det_cong 𝓡 (up m p) _ _ (λ r c x y. low_is 𝓡 n wide r c
        ∙ ap (λ (k : ℕ). stack k top_h low_f (up n r) (up n c)) (up_comm m n)
        ∙ ap (λ (v : ℕ → R). v (up n c)) (stack_drop n m top_h low_f r)
        ∙ stack_map (λ (v : ℕ → R). v (up n c)) m (λ i. top_h (up n i)) low_f r
        ∙ ap₂ (λ (u v : ℕ → R). stack m u v r) (fun_ext (λ i. shift_up 𝓡 n i c h)) (fun_ext (λ i. shift_up 𝓡 n i c f))
        ∙ sym (stack_map (λ (v : ℕ → R). v c) m (λ i. shift 𝓡 i h) (λ i. shift 𝓡 i f) r)))

    -- R6 over any ring, up to a power of the leading coefficient of h
    pub res_mul : pw 𝓡 (h 0) n * res 𝓡 m (up n p) (conv 𝓡 g h) f ≡ res 𝓡 m n g f * (pw 𝓡 (h 0) n * res 𝓡 m p h f)
    unfolding res
    res_mul =
        sym (upper ∙ lower) ∙ det_over 𝓡 (up m n) (up m (up n p)) (omega (arith, up_is m n, up_is m (up n p), up_is n p))
        (sylvester 𝓡 m g f) wide
        ∙ ap (λ x. res 𝓡 m n g f * x) wide_det

-- over the integers
pw_nonzero : (x : ℤ) → x ≢ pos 0 → (n : ℕ) → pw ℤ_ring x n ≢ pos 0
pw_nonzero x z zero h = absurd (omega (arith, ap nat_abs h))
pw_nonzero x z (suc n) h = pw_nonzero x z n (no_divisors x (pw ℤ_ring x n) z h)

-- f, g, h of degrees m, n, p, the leading coefficient of h not 0
pub res_mul_ℤ : (m n p : ℕ) (f g h : ℕ → ℤ) → ((k : ℕ) → m < k → f k ≡ pos 0) → ((k : ℕ) → n < k → g k ≡ pos 0)
    → ((k : ℕ) → p < k → h k ≡ pos 0) → h 0 ≢ pos 0
    → res ℤ_ring m (up n p) (conv ℤ_ring g h) f ≡ res ℤ_ring m n g f *ℤ res ℤ_ring m p h f
res_mul_ℤ m n p f g h zf zg zh z =
    cancel (pw ℤ_ring (h 0) n) _ _ (pw_nonzero (h 0) z n)
    (res_mul ℤ_ring m n p f g h zf zg zh ∙ mul_left_comm ℤ_ring (res ℤ_ring m n g f) (pw ℤ_ring (h 0) n) (res ℤ_ring m p h f))

-- the same in sent degrees, the constant first: f, g in degrees a, b, the top coefficient of g not 0, h in degree e
pub Rs_mul_ℤ : (a b e : ℕ) (f g h : ℕ → ℤ) → ((i : ℕ) → a < i → f i ≡ pos 0) → ((i : ℕ) → b < i → g i ≡ pos 0) → g b ≢ pos 0
    → Rs ℤ_ring (a +ℕ b) e (conv ℤ_ring f g) h ≡ Rs ℤ_ring a e f h *ℤ Rs ℤ_ring b e g h
Rs_mul_ℤ a b e f g h zf zg top =
    ap₂ (λ (k : ℕ) (u : ℕ → ℤ). res ℤ_ring e k u (rv ℤ_ring e h)) (sym (up_is a b)) (sym (fun_ext (conv_rv ℤ_ring a b f g zf zg)))
    ∙ res_mul_ℤ e a b (rv ℤ_ring e h) (rv ℤ_ring a f) (rv ℤ_ring b g)
    (rv_out ℤ_ring e h) (rv_out ℤ_ring a f) (rv_out ℤ_ring b g) (λ z. top (sym (rv_zero ℤ_ring b g) ∙ z))

module _ (m : ℕ) where
  lift : Res m → ℤ
  lift a = pos a.0

  reduce_lift : (a : Res m) → reduce m (lift a) ≡ a
  unfolding lift
  reduce_lift a = Fin.val_path (mod-eq_of_lt a.1)

  -- the leading coefficient made positive
  topped : (ℕ → Res m) → ℕ → ℤ
  topped h zero = pos ((h 0).0 +ℕ suc m *ℕ 1)
  topped h (suc i) = lift (h (suc i))

  reduce_topped : (h : ℕ → Res m) (i : ℕ) → reduce m (topped h i) ≡ h i
  unfolding topped
  reduce_topped h zero = Fin.val_path (add-mul-mod_self_left (h 0).0 (suc m) 1 ∙ mod-eq_of_lt (h 0).1)
  reduce_topped h (suc i) = reduce_lift (h (suc i))

  lift_zero : (a : Res m) → a ≡ toRes m 0 → lift a ≡ pos 0
  unfolding lift
  lift_zero a h = ap pos (ap (λ (x : Res m). x.0) h ∙ mod-eq_of_lt (zero-lt-suc m))

  topped_zero : (p : ℕ) (h : ℕ → Res m) → ((k : ℕ) → p < k → h k ≡ toRes m 0) → (k : ℕ) → p < k → topped h k ≡ pos 0
  unfolding topped
  topped_zero p h z zero l = absurd (omega arith)
  topped_zero p h z (suc k) l = lift_zero (h (suc k)) (z (suc k) l)

  topped_top : (h : ℕ → Res m) → topped h 0 ≢ pos 0
  unfolding topped
  topped_top h z = absurd (omega (arith, ap nat_abs z))

  -- R6 modulo m + 1, leading coefficients first
  pub res_mul_Res : (k n p : ℕ) (f g h : ℕ → Res m) → ((i : ℕ) → k < i → f i ≡ toRes m 0) → ((i : ℕ) → n < i → g i ≡ toRes m 0)
      → ((i : ℕ) → p < i → h i ≡ toRes m 0)
      → res (Res_ring m) k (up n p) (conv (Res_ring m) g h) f ≡ (Res_ring m).mul (res (Res_ring m) k n g f) (res (Res_ring m) k p h f)
  res_mul_Res k n p f g h zf zg zh =
      let F : ℕ → ℤ = λ i. lift (f i) in
      let G : ℕ → ℤ = λ i. lift (g i) in
      let H : ℕ → ℤ = topped h in
      sym (res_mod m k (up n p) (conv ℤ_ring G H) F
      ∙ ap₂ (res (Res_ring m) k (up n p))
      (fun_ext (λ i. conv_hom ℤ_ring (Res_ring m) (reduce m) (reduce_hom m) G H i
      ∙ ap₂ (λ (u v : ℕ → Res m). conv (Res_ring m) u v i) (fun_ext (λ i. reduce_lift (g i))) (fun_ext (reduce_topped h))))
      (fun_ext (λ i. reduce_lift (f i))))
      ∙ ap (reduce m) (res_mul_ℤ k n p F G H (λ i l. lift_zero (f i) (zf i l)) (λ i l. lift_zero (g i) (zg i l)) (topped_zero p h zh)
      (topped_top h))
      ∙ (reduce_hom m).h_mul (res ℤ_ring k n G F) (res ℤ_ring k p H F)
      ∙ ap₂ (Res_ring m).mul
      (res_mod m k n G F ∙ ap₂ (res (Res_ring m) k n) (fun_ext (λ i. reduce_lift (g i))) (fun_ext (λ i. reduce_lift (f i))))
      (res_mod m k p H F ∙ ap₂ (res (Res_ring m) k p) (fun_ext (reduce_topped h)) (fun_ext (λ i. reduce_lift (f i))))

  -- the same, the constant first
  pub Rs_mul : (a b e : ℕ) (f g h : ℕ → Res m) → ((i : ℕ) → a < i → f i ≡ toRes m 0) → ((i : ℕ) → b < i → g i ≡ toRes m 0)
      → Rs (Res_ring m) (a +ℕ b) e (conv (Res_ring m) f g) h ≡ (Res_ring m).mul (Rs (Res_ring m) a e f h) (Rs (Res_ring m) b e g h)
  Rs_mul a b e f g h zf zg =
      ap₂ (λ (k : ℕ) (u : ℕ → Res m). res (Res_ring m) e k u (rv (Res_ring m) e h)) (sym (up_is a b))
      (sym (fun_ext (conv_rv (Res_ring m) a b f g zf zg)))
      ∙ res_mul_Res e a b (rv (Res_ring m) e h) (rv (Res_ring m) a f) (rv (Res_ring m) b g)
      (λ i l. rv_out (Res_ring m) e h i l) (λ i l. rv_out (Res_ring m) a f i l) (λ i l. rv_out (Res_ring m) b g i l)
