-- The cofactors of one column of a matrix, and from the last column of Sylvester's: the resultant is u f + v g with u of e coefficients and
-- v of d.
--
--   cofactor n a k j    the cofactor of the entry in row j and column k
--   Cofactors d e f g x    u and v with u f + v g = x, u of e coefficients and v of d
--   cofactors           those of the resultant, where d + e ≥ 1
--
-- Letters: a is a matrix; f, g are series, the constant first, of degrees d and e; p is a place of the product, c a column.
use Rattle.std.specs.Prelude.{◌≡◌, ◌≢◌}
use Rattle.std.proofs.Math.Path.{refl}
use Rattle.std.proofs.Common.{sym, ◌∙◌, ap, ap₂, arith}
use Prim.Native.Nat.{ℕ, zero, suc, ◌<◌, ◌≤◌, ◌+◌ as ◌+ℕ◌, ◌-◌ as ◌-ℕ◌}
use Rattle.std.proofs.Math.Decide.{dec_lt}
use Rattle.law_algebra.specs.Block.{pad}
use Rattle.law_algebra.specs.Determinant.{det}
use Rattle.law_algebra.specs.Form.{det_form, det_transpose, e, basis, spread}
use Rattle.law_algebra.specs.Index.{ins, skip, ins_eta}
use Rattle.law_algebra.specs.Resultant.{shift, act_conv, sylvester, res}
use Rattle.law_algebra.specs.Reverse.{rv, shift_rv}
use Rattle.law_algebra.specs.Ring.{CRing}
use Rattle.law_algebra.specs.Rows.{put, repeated}
use Rattle.law_algebra.specs.SentLaws.{Rs}
use Rattle.law_algebra.specs.Series.{Short, const, conv_short, conv}
use Rattle.law_algebra.specs.Stack.{back_at, up, back, up_is, stack}
use Rattle.law_algebra.specs.Sum.{sum, sum_cong, sum_last}

module _ {R : Type 0} (𝓡 : CRing R) where
  open 𝓡 use {add as ◌+◌, mul as ◌*◌, nil as 𝟘, add_assoc, zero_add, mul_comm}

  infixl 65 ◌+◌
  infixl 70 ◌*◌
  -- the cofactors of the column k
  unfoldable pub cofactor : ℕ → (ℕ → ℕ → R) → ℕ → ℕ → R
  cofactor n a k j = det 𝓡 n (put 𝓡 k (e 𝓡 j) (λ c r. a r c))

  expand : (n : ℕ) (a : ℕ → ℕ → R) (k : ℕ) → k < n → (v : ℕ → R)
      → det 𝓡 n (put 𝓡 k v (λ c r. a r c)) ≡ sum 𝓡 n (λ j. v j * cofactor n a k j)
  unfolding cofactor
  expand n a k l v =
      let b : ℕ → ℕ → R = λ i r. a r (skip k i) in
      (det_form 𝓡 n).cong (ins k v b) (ins k (λ x. sum 𝓡 n (λ j. v j * e 𝓡 j x)) b) (λ r c p q. go k r c b q)
      ∙ spread 𝓡 (λ v. det 𝓡 n (ins k v b)) (λ c v u. (det_form 𝓡 n).lin k l c v u b) n v (e 𝓡)
    where
      go : (k r c : ℕ) (b : ℕ → ℕ → R) → c < n → ins k v b r c ≡ ins k (λ x. sum 𝓡 n (λ j. v j * e 𝓡 j x)) b r c
      go zero zero c b q = basis 𝓡 n v c q
      go zero (suc r) c b q = refl
      go (suc k) zero c b q = refl
      go (suc k) (suc r) c b q = go k r c (λ i. b (suc i)) q

  pub cofactor_own : (n : ℕ) (a : ℕ → ℕ → R) (k : ℕ) → k < n → sum 𝓡 n (λ j. a j k * cofactor n a k j) ≡ det 𝓡 n a
  cofactor_own n a k l = sym (expand n a k l (λ j. a j k)) ∙ ap (det 𝓡 n) (ins_eta k (λ c r. a r c)) ∙ det_transpose 𝓡 n a

  pub cofactor_other : (n : ℕ) (a : ℕ → ℕ → R) (k c : ℕ) → k < n → c < n → c ≢ k → sum 𝓡 n (λ j. a j c * cofactor n a k j) ≡ 𝟘
  cofactor_other n a k c l p z = sym (expand n a k l (λ j. a j c)) ∙ repeated 𝓡 (det_form 𝓡 n) c k p l z (λ c r. a r c)

  pub sum_back : (n : ℕ) (f : ℕ → R) → sum 𝓡 n (back n f) ≡ sum 𝓡 n f
  sum_back zero f = refl
  sum_back (suc n) f = ap (λ x. f n + x) (sum_back n f) ∙ sym (sum_last 𝓡 n f)

  sum_stack : (m n c : ℕ) (a b : ℕ → ℕ → R) (w : ℕ → R) → sum 𝓡 (up m n) (λ j. stack m a b j c * w j) ≡ sum 𝓡 m (λ i. a i c * w i) + sum 𝓡 n
      (λ i. b i c * w (up m i))
  sum_stack zero n c a b w = sym (zero_add _)
  sum_stack (suc m) n c a b w = ap (λ x. a 0 c * w 0 + x) (sum_stack m n c (λ i. a (suc i)) b (λ i. w (suc i))) ∙ sym (add_assoc _ _ _)

  pad_at : (m : ℕ) (v : ℕ → R) (k : ℕ) → k < m → pad 𝓡 m v k ≡ v k
  pad_at zero v k l = absurd (omega arith)
  pad_at (suc m) v zero l = refl
  pad_at (suc m) v (suc k) l = pad_at m (λ i. v (suc i)) k (omega arith)

  pad_short : (m : ℕ) (v : ℕ → R) → Short 𝓡 m (pad 𝓡 m v)
  pad_short m v = record { out = out m v }
    where
      out : (m : ℕ) (v : ℕ → R) (k : ℕ) → m ≤ k → pad 𝓡 m v k ≡ 𝟘
      out zero v k l = refl
      out (suc m) v zero l = absurd (omega arith)
      out (suc m) v (suc k) l = out m (λ i. v (suc i)) k (omega arith)

  -- a block of Sylvester's rows: the column c is the place p of the product
  rows : (m d : ℕ) (f w : ℕ → R) → ((k : ℕ) → d < k → f k ≡ 𝟘) → (c p : ℕ) → suc (c +ℕ p) ≡ m +ℕ d
      → sum 𝓡 m (λ i. shift 𝓡 i (rv 𝓡 d f) c * w i) ≡ conv 𝓡 (pad 𝓡 m (back m w)) f p
  rows m d f w z c p h =
      sum_cong 𝓡 m _ (back m (λ i. back m w i * shift 𝓡 i f p))
      (λ i l. ap₂ ◌*◌ (shift_rv 𝓡 d f z i (m -ℕ suc i) c p (omega arith)) (sym (back_at m w (m -ℕ suc i) i (omega arith)))
      ∙ mul_comm _ _ ∙ sym (back_at m (λ i. back m w i * shift 𝓡 i f p) i (m -ℕ suc i) (omega arith)))
      ∙ sum_back m (λ i. back m w i * shift 𝓡 i f p)
      ∙ sum_cong 𝓡 m _ _ (λ i l. ap (λ x. x * shift 𝓡 i f p) (sym (pad_at m (back m w) i l)))
      ∙ act_conv 𝓡 m (pad 𝓡 m (back m w)) f (λ k l. (pad_short m (back m w)).out k l) p

  -- u f + v g = Res, u of e words and v of d
  pub record Cofactors (d e : ℕ) (f g : ℕ → R) (x : R) : Type 0 where
    pub u : ℕ → R
    pub v : ℕ → R
    pub short_u : Short 𝓡 e u
    pub short_v : Short 𝓡 d v
    pub eq : (k : ℕ) → conv 𝓡 u f k + conv 𝓡 v g k ≡ const 𝓡 x k

  pub cofactors : (d e : ℕ) (f g : ℕ → R) → ((k : ℕ) → d < k → f k ≡ 𝟘) → ((k : ℕ) → e < k → g k ≡ 𝟘) → 1 ≤ d +ℕ e
      → Cofactors d e f g (Rs 𝓡 d e f g)
  unfolding res
  cofactors d e f g zf zg l = record {
    u = u;
    v = v;
    short_u = pad_short e (back e w);
    short_v = pad_short d (back d (λ i. w (up e i)));
    eq = eq;
  }
    where
      n : ℕ
      n = up e d

      s : ℕ → ℕ → R
      s = sylvester 𝓡 e (rv 𝓡 d f) (rv 𝓡 e g)

      w : ℕ → R
      w = cofactor n s (n -ℕ 1)

      u : ℕ → R
      u = pad 𝓡 e (back e w)

      v : ℕ → R
      v = pad 𝓡 d (back d (λ i. w (up e i)))

      both : (c p : ℕ) → suc (c +ℕ p) ≡ n → conv 𝓡 u f p + conv 𝓡 v g p ≡ sum 𝓡 n (λ j. s j c * w j)
      both c p h =
          ap₂ ◌+◌ (sym (rows e d f w zf c p (omega (arith, up_is e d))))
          (sym (rows d e g (λ i. w (up e i)) zg c p (omega (arith, up_is e d))))
          ∙ sym (sum_stack e d c (λ i. shift 𝓡 i (rv 𝓡 d f)) (λ i. shift 𝓡 i (rv 𝓡 e g)) w)

      eq : (k : ℕ) → conv 𝓡 u f k + conv 𝓡 v g k ≡ const 𝓡 (det 𝓡 n s) k
      eq zero = both (n -ℕ 1) 0 (omega (arith, up_is e d)) ∙ cofactor_own n s (n -ℕ 1) (omega (arith, up_is e d))
      eq (suc k) = go (dec_lt (suc k) n)
        where
          go : Dec (suc k < n) → conv 𝓡 u f (suc k) + conv 𝓡 v g (suc k) ≡ 𝟘
          go (yes q) = both (n -ℕ suc (suc k)) (suc k) (omega arith)
              ∙ cofactor_other n s (n -ℕ 1) (n -ℕ suc (suc k)) (omega arith) (omega arith) (omega arith)
          go (no q) =
              ap₂ ◌+◌ ((conv_short 𝓡 e d u f (pad_short e (back e w)) (record { out = λ k l. zf k (omega arith) })).out (suc k)
              (omega (arith, up_is e d)))
              ((conv_short 𝓡 d e v g (pad_short d (back d (λ i. w (up e i)))) (record { out = λ k l. zg k (omega arith) })).out (suc k)
              (omega (arith, up_is e d)))
              ∙ zero_add 𝟘
