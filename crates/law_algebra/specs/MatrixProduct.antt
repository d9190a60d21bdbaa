-- What follows from uniqueness for products: det (A B) = det A · det B, and the determinant of a matrix whose top rows are multiplied by
-- another.
--
--   act n b v       the row v times the matrix b of n rows
--   mmul n a b      the product of matrices
--   over m a w      the first m rows of a, the others of w
--   under           a form of the top rows, those below fixed
--   det_over        det [A · top of W ; rest of W] = det A · det W
--
-- Letters: a, b, w are matrices; u, v rows; m, n, N numbers of rows.
use Rattle.std.specs.Prelude.{◌≡◌, refl, ℕ, zero, suc, ◌<◌, ◌≤◌}
use Rattle.std.proofs.Common.{sym, ◌∙◌, ap, ap₂, arith}
use Rattle.std.proofs.Math.Path.{fun_ext}
use Rattle.law_algebra.specs.Determinant.{det_cong, det, comb}
use Rattle.law_algebra.specs.Form.{Form, det_form, e, basis, Linear, pull, unique}
use Rattle.law_algebra.specs.Index.{ins}
use Rattle.law_algebra.specs.Ring.{CRing, add_mul}
use Rattle.law_algebra.specs.Sum.{sum, sum_cong, sum_lin}

module _ {R : Type 0} (𝓡 : CRing R) where
  open 𝓡 use {add as ◌+◌, mul as ◌*◌, mul_assoc, mul_comm}

  infixl 65 ◌+◌
  infixl 70 ◌*◌
  -- a row times a matrix of n rows
  abbrev pub act : ℕ → (ℕ → ℕ → R) → (ℕ → R) → ℕ → R
  act n b v c = sum 𝓡 n (λ k. v k * b k c)

  abbrev pub mmul : ℕ → (ℕ → ℕ → R) → (ℕ → ℕ → R) → ℕ → ℕ → R
  mmul n a b r = act n b (a r)

  e_sym : (r c : ℕ) → e 𝓡 r c ≡ e 𝓡 c r
  e_sym zero zero = refl
  e_sym zero (suc c) = refl
  e_sym (suc r) zero = refl
  e_sym (suc r) (suc c) = e_sym r c

  pub act_e : (n : ℕ) (b : ℕ → ℕ → R) (r c : ℕ) → r < n → act n b (e 𝓡 r) c ≡ b r c
  act_e n b r c l = sum_cong 𝓡 n _ _ (λ k p. mul_comm (e 𝓡 r k) (b k c) ∙ ap (λ x. b k c * x) (e_sym r k))
      ∙ sym (basis 𝓡 n (λ k. b k c) r l)

  pub act_linear : (n n' : ℕ) (b : ℕ → ℕ → R) → Linear 𝓡 n n' (act n b)
  act_linear n n' b = record {
    reads = λ v u h c q. sum_cong 𝓡 n _ _ (λ k l. ap (λ x. x * b k c) (h k l));
    keeps = λ c v u j. sum_lin 𝓡 n c _ (λ k. v k * b k j) (λ k. u k * b k j) (λ k l. simp (add_mul 𝓡, mul_assoc));
  }

  pub det_mul : (n : ℕ) (a b : ℕ → ℕ → R) → det 𝓡 n (mmul n a b) ≡ det 𝓡 n a * det 𝓡 n b
  det_mul n a b =
      unique 𝓡 n (pull 𝓡 (det_form 𝓡 n) (act_linear n n b)) a
      ∙ ap (λ x. det 𝓡 n a * x) (det_cong 𝓡 n _ b (λ r c p q. act_e n b r c p))

  -- the first m rows from one matrix, the others from another
  abbrev pub over : ℕ → (ℕ → ℕ → R) → (ℕ → ℕ → R) → ℕ → ℕ → R
  over zero a w r = w r
  over (suc m) a w zero = a zero
  over (suc m) a w (suc r) = over m (λ i. a (suc i)) (λ i. w (suc i)) r

  over_ins : (m k : ℕ) → k < suc m → (v : ℕ → R) (b w : ℕ → ℕ → R) (r : ℕ)
      → over (suc m) (ins k v b) w r ≡ ins k v (over m b (λ i. w (suc i))) r
  over_ins m zero l v b w zero = refl
  over_ins m zero l v b w (suc r) = refl
  over_ins zero (suc k) l v b w r = absurd (omega arith)
  over_ins (suc m) (suc k) l v b w zero = refl
  over_ins (suc m) (suc k) l v b w (suc r) = over_ins m k (omega arith) v (λ i. b (suc i)) (λ i. w (suc i)) r

  pub over_cong : (m n N : ℕ) (a b w : ℕ → ℕ → R) → ((r c : ℕ) → r < m → c < n → a r c ≡ b r c) → (r c : ℕ) → r < N → c < n
      → over m a w r c ≡ over m b w r c
  over_cong zero n N a b w h r c p q = refl
  over_cong (suc m) n N a b w h zero c p q = h 0 c (omega arith) q
  over_cong (suc m) n N a b w h (suc r) c p q = over_cong m n N (λ i. a (suc i)) (λ i. b (suc i)) (λ i. w (suc i))
      (λ r c x y. h (suc r) c (omega arith) y) r c (omega arith) q

  pub over_self : (m : ℕ) (a w : ℕ → ℕ → R) (c : ℕ) → ((r : ℕ) → r < m → a r c ≡ w r c) → (r : ℕ) → over m a w r c ≡ w r c
  over_self zero a w c h r = refl
  over_self (suc m) a w c h zero = h 0 (omega arith)
  over_self (suc m) a w c h (suc r) = over_self m (λ i. a (suc i)) (λ i. w (suc i)) c (λ r l. h (suc r) (omega arith)) r

  over_two : (m k : ℕ) → suc k < suc m → (v : ℕ → R) (b w : ℕ → ℕ → R)
      → (t : ℕ → ℕ → R) × (over (suc m) (ins k v (ins k v b)) w ≡ ins k v (ins k v t))
  over_two zero k l v b w = absurd (omega arith)
  over_two (suc m) k l v b w = (
    over m b (λ i. w (suc (suc i))),
    fun_ext (over_ins (suc m) k (omega arith) v (ins k v b) w) ∙ ap (ins k v) (fun_ext (over_ins m k (omega arith) v b (λ i. w (suc i)))),
  )

  pub under : {N n : ℕ} {D : (ℕ → ℕ → R) → R} → Form 𝓡 N n D → (m : ℕ) → m ≤ N → (w : ℕ → ℕ → R) → Form 𝓡 m n (λ a. D (over m a w))
  under F zero l w = record { cong = λ a b h. refl; lin = λ k p c v u b. absurd (omega arith); two = λ k p v b. absurd (omega arith) }
  under {N} {n} {D} F (suc m) l w = record {
    cong = λ a b h. F.cong _ _ (over_cong (suc m) n N a b w h);
    lin = λ k p c v u b. ap D (put k p (comb 𝓡 c v u) b) ∙ F.lin k (omega arith) c v u (over m b (λ i. w (suc i)))
        ∙ ap₂ (λ x y. c * D x + D y) (sym (put k p v b)) (sym (put k p u b));
    two = λ k p v b. let t = over_two m k p v b w in ap D t.1 ∙ F.two k (omega arith) v t.0;
  }
    where
      put : (k : ℕ) → k < suc m → (v : ℕ → R) (b : ℕ → ℕ → R) → over (suc m) (ins k v b) w ≡ ins k v (over m b (λ i. w (suc i)))
      put k p v b = fun_ext (over_ins m k p v b w)

  -- [A · top of W ; rest of W]
  pub det_over : (m N : ℕ) → m ≤ N → (a w : ℕ → ℕ → R) → det 𝓡 N (over m (mmul m a w) w) ≡ det 𝓡 m a * det 𝓡 N w
  det_over m N l a w =
      unique 𝓡 m (pull 𝓡 (under (det_form 𝓡 N) m l w) (act_linear m N w)) a
      ∙ ap (λ x. det 𝓡 m a * x) (det_cong 𝓡 N _ w (λ r c p q. over_self m _ w c (λ r l. act_e m w r c l) r))
