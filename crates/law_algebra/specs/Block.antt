-- Block triangular matrices: where the block right of the first m rows' first m columns is 0, or the block below it, the determinant is the
-- product of two.
--
--   corner, corner_row   the first column is 0 below the corner; the first row is 0 beside it
--   pad m v         the first m entries of v, then zeros
--   low m a         the rows and columns from m on
--   det_block_lower      the top right block is 0
--   det_block_upper      the bottom left block is 0
--
-- Letters: a, w are matrices; v a row; m, p the sizes of the blocks.
use Rattle.std.specs.Prelude.{◌≡◌, refl, ℕ, zero, suc, ◌<◌, ◌≤◌}
use Rattle.std.proofs.Common.{sym, ◌∙◌, ap₂, arith}
use Rattle.std.proofs.Math.Path.{ap, fun_ext}
use Rattle.law_algebra.specs.Determinant.{comb, det_cong, det, minor}
use Rattle.law_algebra.specs.Form.{det_form, det_transpose, e, Linear, pull, unique}
use Rattle.law_algebra.specs.MatrixProduct.{under, over_self, over}
use Rattle.law_algebra.specs.Ring.{CRing, add_zero, mul_zero, neg_zero, zero_mul}
use Rattle.law_algebra.specs.Stack.{up_is, up}
use Rattle.law_algebra.specs.Sum.{alt_zero}

module _ {R : Type 0} (𝓡 : CRing R) where
  open 𝓡 use {add as ◌+◌, mul as ◌*◌, neg as -◌, nil as 𝟘, zero_add, one_mul}

  infixl 65 ◌+◌
  infixl 70 ◌*◌
  infix 75 -◌
  -- the first column is 0 below the corner; the first row is 0 beside it
  pub corner : (n : ℕ) (a : ℕ → ℕ → R) → ((i : ℕ) → i < n → a (suc i) 0 ≡ 𝟘) → det 𝓡 (suc n) a ≡ a 0 0 * det 𝓡 n (λ r c. a (suc r) (suc c))
  unfolding det
  corner n a h =
      ap (λ y. a 0 0 * det 𝓡 n (λ r c. a (suc r) (suc c)) + (- y))
      (alt_zero 𝓡 n _ (λ i l. ap (λ x. x * det 𝓡 n (minor 𝓡 (suc i) a)) (h i l) ∙ zero_mul 𝓡 _))
      ∙ simp (neg_zero 𝓡, add_zero 𝓡)

  pub corner_row : (n : ℕ) (a : ℕ → ℕ → R) → ((j : ℕ) → j < n → a 0 (suc j) ≡ 𝟘)
      → det 𝓡 (suc n) a ≡ a 0 0 * det 𝓡 n (λ r c. a (suc r) (suc c))
  corner_row n a h =
      sym (det_transpose 𝓡 (suc n) a) ∙ corner n (λ r c. a c r) h ∙ ap (λ x. a 0 0 * x) (det_transpose 𝓡 n (λ r c. a (suc r) (suc c)))

  -- the first m entries, then zeros
  abbrev pub pad : ℕ → (ℕ → R) → ℕ → R
  pad zero v c = 𝟘
  pad (suc m) v zero = v zero
  pad (suc m) v (suc c) = pad m (λ i. v (suc i)) c

  pad_linear : (m n' : ℕ) → Linear 𝓡 m n' (pad m)
  pad_linear m n' = record { reads = λ v u h c q. reads m v u h c; keeps = λ c v u j. keeps m c v u j }
    where
      reads : (m : ℕ) (v u : ℕ → R) → ((c : ℕ) → c < m → v c ≡ u c) → (c : ℕ) → pad m v c ≡ pad m u c
      reads zero v u h c = refl
      reads (suc m) v u h zero = h 0 (omega arith)
      reads (suc m) v u h (suc c) = reads m (λ i. v (suc i)) (λ i. u (suc i)) (λ i l. h (suc i) (omega arith)) c

      keeps : (m : ℕ) (c : R) (v u : ℕ → R) (j : ℕ) → pad m (comb 𝓡 c v u) j ≡ c * pad m v j + pad m u j
      keeps zero c v u j = sym (simp (mul_zero 𝓡, zero_add))
      keeps (suc m) c v u zero = refl
      keeps (suc m) c v u (suc j) = keeps m c (λ i. v (suc i)) (λ i. u (suc i)) j

  over_map : (g : (ℕ → R) → ℕ → R) (m : ℕ) (a w : ℕ → ℕ → R) (r : ℕ) → g (over 𝓡 m a w r) ≡ over 𝓡 m (λ i. g (a i)) (λ i. g (w i)) r
  over_map g zero a w r = refl
  over_map g (suc m) a w zero = refl
  over_map g (suc m) a w (suc r) = over_map g m (λ i. a (suc i)) (λ i. w (suc i)) r

  -- the rows and columns from m on
  abbrev pub low : ℕ → (ℕ → ℕ → R) → ℕ → ℕ → R
  low zero w = w
  low (suc m) w = low m (λ r c. w (suc r) (suc c))

  pub low_is : (n : ℕ) (w : ℕ → ℕ → R) (r c : ℕ) → low n w r c ≡ w (up n r) (up n c)
  low_is zero w r c = refl
  low_is (suc n) w r c = low_is n (λ r c. w (suc r) (suc c)) r c

  pad_zero : (m : ℕ) (c : ℕ) → pad m (λ i. 𝟘) c ≡ 𝟘
  pad_zero zero c = refl
  pad_zero (suc m) zero = refl
  pad_zero (suc m) (suc c) = pad_zero m c

  unit_block : (m p : ℕ) (w : ℕ → ℕ → R) → det 𝓡 (up m p) (over 𝓡 m (λ r. pad m (e 𝓡 r)) w) ≡ det 𝓡 p (low m w)
  unit_block zero p w = refl
  unit_block (suc m) p w =
      corner_row (up m p) (over 𝓡 (suc m) (λ r. pad (suc m) (e 𝓡 r)) w) (λ j l. pad_zero m j)
      ∙ one_mul _ ∙ ap (det 𝓡 (up m p)) (fun_ext (λ r. over_map (λ v c. v (suc c)) m (λ i. pad (suc m) (e 𝓡 (suc i))) (λ i. w (suc i)) r))
      ∙ unit_block m p (λ r c. w (suc r) (suc c))

  pad_self : (m n : ℕ) (v : ℕ → R) → ((c : ℕ) → m ≤ c → c < n → v c ≡ 𝟘) → (c : ℕ) → c < n → pad m v c ≡ v c
  pad_self zero n v h c l = sym (h c (omega arith) l)
  pad_self (suc m) n v h zero l = refl
  pad_self (suc m) zero v h (suc c) l = absurd (omega arith)
  pad_self (suc m) (suc n) v h (suc c) l = pad_self m n (λ i. v (suc i)) (λ c p q. h (suc c) (omega arith) (omega arith)) c (omega arith)

  -- the top right block is 0
  pub det_block_lower : (m p : ℕ) (a : ℕ → ℕ → R) → ((r c : ℕ) → r < m → m ≤ c → c < up m p → a r c ≡ 𝟘)
      → det 𝓡 (up m p) a ≡ det 𝓡 m a * det 𝓡 p (low m a)
  det_block_lower m p a h =
      det_cong 𝓡 (up m p) a (over 𝓡 m (λ r. pad m (a r)) a)
      (λ r c x y. sym (over_self 𝓡 m (λ r. pad m (a r)) a c (λ r l. pad_self m (up m p) (a r) (λ c u v. h r c l u v) c y) r))
      ∙ unique 𝓡 m (pull 𝓡 (under 𝓡 (det_form 𝓡 (up m p)) m (omega (arith, up_is m p)) a) (pad_linear m (up m p))) a
      ∙ ap (λ x. det 𝓡 m a * x) (unit_block m p a)

  low_flip : (m : ℕ) (a : ℕ → ℕ → R) → low m (λ r c. a c r) ≡ (λ r c. low m a c r)
  low_flip zero a = refl
  low_flip (suc m) a = low_flip m (λ r c. a (suc r) (suc c))

  -- the bottom left block is 0
  pub det_block_upper : (m p : ℕ) (a : ℕ → ℕ → R) → ((r c : ℕ) → c < m → m ≤ r → r < up m p → a r c ≡ 𝟘)
      → det 𝓡 (up m p) a ≡ det 𝓡 m a * det 𝓡 p (low m a)
  det_block_upper m p a h =
      sym (det_transpose 𝓡 (up m p) a) ∙ det_block_lower m p (λ r c. a c r) (λ r c. h c r)
      ∙ ap₂ ◌*◌ (det_transpose 𝓡 m a) (ap (det 𝓡 p) (low_flip m a) ∙ det_transpose 𝓡 p (low m a))
