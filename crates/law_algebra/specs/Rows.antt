-- Row operations on any form, so on the determinant: rows that are equal, multiplied, added to each other, exchanged; whole blocks that are
-- scaled, exchanged or reversed.
--
--   put k w a       the matrix a with the row k replaced by w
--   linear          linear in the row k, said of entries
--   equal, repeated, add_row, exchange    the laws of an alternating form, said of entries
--   scale_all, blocks, backward           all rows times x; two blocks change places; the rows in the other order
--   fix_rows        a form of the last rows, the first fixed
--   absorb_rows     combinations of the last rows added to the first
--   tri n           0 + 1 + … + (n - 1)
--
-- Letters: D is a form and F says so; i, k are rows' numbers; u, v, w rows; a, b matrices.
use Rattle.std.specs.Prelude.{◌≡◌, refl, ◌≢◌, ℕ, zero, suc, ◌<◌, ◌≤◌, ◌+◌ as ◌+ℕ◌, ◌*◌ as ◌*ℕ◌}
use Rattle.std.proofs.Common.{sym, ◌∙◌, ap, ap₂, subst, arith}
use Rattle.std.proofs.Math.Path.{fun_ext}
use Rattle.std.proofs.Math.Decide.{ℕ_discrete, dec_lt}
use Rattle.law_algebra.specs.Determinant.{comb}
use Rattle.law_algebra.specs.Form.{Form, spread, fix_top, bilinear, sink}
use Rattle.law_algebra.specs.Index.{ins, skip, ins_eta, View, here, there, view, ins_at, ins_skip, skip_above, skip_ne}
use Rattle.law_algebra.specs.MatrixProduct.{over}
use Rattle.law_algebra.specs.Ring.{CRing, add_zero, mul_zero, pw}
use Rattle.law_algebra.specs.Stack.{up, back, stack_bottom, up_is, stack, stack_top}
use Rattle.law_algebra.specs.Sum.{sum, sgn, sgn_twice, sgn_add, sgn_zero}

-- 0 + 1 + … + (n - 1)
abbrev pub tri : ℕ → ℕ
tri zero = zero
tri (suc n) = n +ℕ tri n

pub tri_add : (m n : ℕ) → tri (m +ℕ n) ≡ tri m +ℕ tri n +ℕ m *ℕ n
tri_add m n = ap tri (sym (up_is m n)) ∙ go m
  where
    go : (m : ℕ) → tri (up m n) ≡ tri m +ℕ tri n +ℕ m *ℕ n
    go zero = omega arith
    go (suc m) = let h = go m in let g = up_is m n in omega arith

module _ {R : Type 0} (𝓡 : CRing R) where
  open 𝓡 use {add as ◌+◌, mul as ◌*◌, neg as -◌, nil as 𝟘, add_assoc, zero_add, mul_assoc, mul_comm, one_mul}

  infixl 65 ◌+◌
  infixl 70 ◌*◌
  infix 75 -◌
  -- two equal rows, at i and at k + 1 > i
  pub equal_rows : {m n : ℕ} {D : (ℕ → ℕ → R) → R} → Form 𝓡 m n D → (i k : ℕ) → i ≤ k → suc k < m → (v : ℕ → R) (b : ℕ → ℕ → R)
      → D (ins i v (ins k v b)) ≡ 𝟘
  equal_rows {m = zero} F i k p l v b = absurd (omega arith)
  equal_rows {m = suc zero} F i k p l v b = absurd (omega arith)
  equal_rows {m = suc (suc m)} {D = D} F zero k p l v b = sgn_zero 𝓡 k _
      (sym (F.two 0 (omega arith) v b) ∙ sink 𝓡 (fix_top 𝓡 F v) k (omega arith) v b)
  equal_rows {m = suc (suc m)} F (suc i) zero p l v b = absurd (omega arith)
  equal_rows {m = suc (suc m)} {D = D} F (suc i) (suc k) p l v b =
      ap D (fun_ext (elim [ zero ↦ refl | suc r ↦ refl ])) ∙ equal_rows {m = suc m} (fix_top 𝓡 F (b 0)) i k (omega arith) (omega arith) v
      (λ r. b (suc r))

  -- a, with the row k replaced by w
  abbrev pub put : ℕ → (ℕ → R) → (ℕ → ℕ → R) → ℕ → ℕ → R
  put k w a = ins k w (λ r. a (skip k r))

  pub put_same : (k : ℕ) (w : ℕ → R) (a : ℕ → ℕ → R) → put k w a k ≡ w
  put_same k w a = ins_at k w (λ r. a (skip k r))

  put_view : (k : ℕ) (w : ℕ → R) (a : ℕ → ℕ → R) (r : ℕ) → View k r → r ≢ k → put k w a r ≡ a r
  put_view k w a r here h = absurd (h refl)
  put_view k w a r (there s) h = ins_skip k w (λ r. a (skip k r)) s

  pub put_other : (k : ℕ) (w : ℕ → R) (a : ℕ → ℕ → R) (r : ℕ) → r ≢ k → put k w a r ≡ a r
  put_other k w a r h = put_view k w a r (view k r) h

  put_swap : (i k : ℕ) → i ≢ k → (u v : ℕ → R) (a : ℕ → ℕ → R) → put i u (put k v a) ≡ put k v (put i u a)
  put_swap i k z u v a = fun_ext (λ r. go r (ℕ_discrete r i) (ℕ_discrete r k))
    where
      go : (r : ℕ) → Dec (r ≡ i) → Dec (r ≡ k) → put i u (put k v a) r ≡ put k v (put i u a) r
      go r (yes p) (yes q) = absurd (z (sym p ∙ q))
      go r (yes p) (no q) = rw p (put_same i u (put k v a) ∙ sym (put_other k v (put i u a) i z ∙ put_same i u a))
      go r (no p) (yes q) = rw q (put_other i u (put k v a) k (λ h. z (sym h)) ∙ put_same k v a ∙ sym (put_same k v (put i u a)))
      go r (no p) (no q) = put_other i u (put k v a) r p ∙ put_other k v a r q ∙ sym (put_other k v (put i u a) r q ∙ put_other i u a r p)

  -- a has the row w at k, and is b elsewhere
  agree : (m n k : ℕ) (w : ℕ → R) (a b : ℕ → ℕ → R) → ((c : ℕ) → c < n → a k c ≡ w c) → ((r c : ℕ) → r < m → c < n → r ≢ k → a r c ≡ b r c)
      → (r c : ℕ) → r < m → c < n → View k r → a r c ≡ put k w b r c
  agree m n k w a b h g r c p q here = h c q ∙ ap (λ v. v c) (sym (put_same k w b))
  agree m n k w a b h g r c p q (there s) = g (skip k s) c p q (skip_ne k s)
      ∙ ap (λ v. v c) (sym (put_other k w b (skip k s) (skip_ne k s)))

  module _ {m n : ℕ} {D : (ℕ → ℕ → R) → R} (F : Form 𝓡 m n D) where
    -- rows k: that of a is x times that of b and that of d; elsewhere they agree
    pub linear : (k : ℕ) → k < m → (x : R) (a b d : ℕ → ℕ → R) → ((c : ℕ) → c < n → a k c ≡ x * b k c + d k c)
        → ((r c : ℕ) → r < m → c < n → r ≢ k → a r c ≡ b r c) → ((r c : ℕ) → r < m → c < n → r ≢ k → a r c ≡ d r c) → D a ≡ x * D b + D d
    linear k l x a b d h hb hd =
        F.cong a _ (λ r c p q. agree m n k (comb 𝓡 x (b k) (d k)) a a h (λ r c p q z. refl) r c p q (view k r))
        ∙ F.lin k l x (b k) (d k) (λ r. a (skip k r))
        ∙ sym (ap₂ (λ y z. x * y + z)
        (F.cong b _ (λ r c p q. agree m n k (b k) b a (λ c q. refl) (λ r c p q z. sym (hb r c p q z)) r c p q (view k r)))
        (F.cong d _ (λ r c p q. agree m n k (d k) d a (λ c q. refl) (λ r c p q z. sym (hd r c p q z)) r c p q (view k r))))

    -- a matrix by its rows i < k + 1 and the others
    apart : (i k : ℕ) → i ≤ k → (a : ℕ → ℕ → R) → a ≡ ins i (a i) (ins k (a (suc k)) (λ r. a (skip i (skip k r))))
    apart i k l a =
        sym (ap (λ (j : ℕ). ins i (a i) (ins k (a j) (λ r. a (skip i (skip k r))))) (sym (skip_above i k l))
        ∙ ap (ins i (a i)) (ins_eta k (λ r. a (skip i r))) ∙ ins_eta i a)

    -- two equal rows
    equal_fun : (i k : ℕ) → i ≤ k → suc k < m → (a : ℕ → ℕ → R) → a i ≡ a (suc k) → D a ≡ 𝟘
    equal_fun i k l p a h =
        ap D (apart i k l a) ∙ ap (λ (v : ℕ → R). D (ins i (a i) (ins k v (λ r. a (skip i (skip k r)))))) (sym h)
        ∙ equal_rows F i k l p (a i) (λ r. a (skip i (skip k r)))

    pub equal : (i k : ℕ) → i < k → k < m → (a : ℕ → ℕ → R) → ((c : ℕ) → c < n → a i c ≡ a k c) → D a ≡ 𝟘
    equal i zero l p a h = absurd (omega arith)
    equal i (suc k) l p a h =
        F.cong a (put (suc k) (a i) a) (λ r c x y. agree m n (suc k) (a i) a a (λ c y. sym (h c y)) (λ r c x y z. refl) r c x y
        (view (suc k) r))
        ∙ equal_fun i k (omega arith) p (put (suc k) (a i) a) (put_other (suc k) (a i) a i (omega arith) ∙ sym (put_same (suc k) (a i) a))

    -- the row i, put at k ≢ i too
    pub repeated : (i k : ℕ) → i < m → k < m → i ≢ k → (a : ℕ → ℕ → R) → D (put k (a i) a) ≡ 𝟘
    repeated i k p q z a = go (dec_lt i k)
      where
        same : put k (a i) a i ≡ put k (a i) a k
        same = put_other k (a i) a i z ∙ sym (put_same k (a i) a)

        go : Dec (i < k) → D (put k (a i) a) ≡ 𝟘
        go (yes l) = equal i k l q (put k (a i) a) (λ c x. ap (λ v. v c) same)
        go (no l) = equal k i (omega arith) p (put k (a i) a) (λ c x. ap (λ v. v c) (sym same))

    -- a multiple of the row i is added to the row k
    pub add_row : (i k : ℕ) → i < m → k < m → i ≢ k → (x : R) (a b : ℕ → ℕ → R) → ((c : ℕ) → c < n → b k c ≡ x * a i c + a k c)
        → ((r c : ℕ) → r < m → c < n → r ≢ k → b r c ≡ a r c) → D b ≡ D a
    add_row i k p q z x a b h g =
        linear k q x b (put k (a i) a) a (λ c l. h c l ∙ ap (λ (v : ℕ → R). x * v c + a k c) (sym (put_same k (a i) a)))
        (λ r c u v w. g r c u v w ∙ ap (λ v. v c) (sym (put_other k (a i) a r w))) g
        ∙ ap (λ y. x * y + D a) (repeated i k p q z a) ∙ simp (mul_zero 𝓡, zero_add)

    -- two rows change places
    pub exchange : (i k : ℕ) → i < m → k < m → i ≢ k → (a : ℕ → ℕ → R) → D (put i (a k) (put k (a i) a)) ≡ - D a
    exchange i k p q z a =
        bilinear 𝓡 (λ u v. D (put i u (put k v a))) (λ c v u w. F.lin i p c v u (λ r. put k w a (skip i r)))
        (λ c v u w. ap D (put_swap i k z w (comb 𝓡 c v u) a) ∙ F.lin k q c v u (λ r. put i w a (skip k r))
        ∙ ap₂ (λ x y. c * D x + D y) (sym (put_swap i k z w v a)) (sym (put_swap i k z w u a)))
        none (a k) (a i)
        ∙ ap (λ x. - D (put i (a i) x)) (ins_eta k a) ∙ ap (λ x. - D x) (ins_eta i a)
      where
        none : (v : ℕ → R) → D (put i v (put k v a)) ≡ 𝟘
        none v = ap (λ w. D (put i w (put k v a))) (sym (put_same k v a)) ∙ repeated k i q p (λ h. z (sym h)) (put k v a)

  pub lin_scale : {m n : ℕ} {D : (ℕ → ℕ → R) → R} → Form 𝓡 m n D → (k : ℕ) → k < m → (x : R) (v : ℕ → R) (b : ℕ → ℕ → R)
      → D (ins k (λ c. x * v c) b) ≡ x * D (ins k v b)
  lin_scale {D = D} F k l x v b =
      ap (λ (w : ℕ → R). D (ins k w b)) (fun_ext (λ c. sym (add_zero 𝓡 (x * v c))))
      ∙ spread 𝓡 (λ v. D (ins k v b)) (λ c v u. F.lin k l c v u b) 1 (λ j. x) (λ j. v) ∙ add_zero 𝓡 (x * D (ins k v b))

  -- every row times x
  pub scale_all : {m n : ℕ} {D : (ℕ → ℕ → R) → R} → Form 𝓡 m n D → (x : R) (a : ℕ → ℕ → R) → D (λ r c. x * a r c) ≡ pw 𝓡 x m * D a
  scale_all {m = zero} {D = D} F x a = F.cong _ a (λ r c p q. absurd (omega arith)) ∙ sym (one_mul (D a))
  scale_all {m = suc m} {D = D} F x a =
      ap D (sym (ins_eta 0 (λ r c. x * a r c)))
      ∙ scale_all {m = m} (fix_top 𝓡 F (λ c. x * a 0 c)) x (λ r. a (suc r))
      ∙ ap (λ y. pw 𝓡 x m * y) (lin_scale F 0 (omega arith) x (a 0) (λ r. a (suc r)))
      ∙ sym (mul_assoc (pw 𝓡 x m) x _) ∙ ap₂ ◌*◌ (mul_comm (pw 𝓡 x m) x) (ap D (ins_eta 0 a))

  -- the first row of the lower block
  pub stack_split : (m : ℕ) (a b : ℕ → ℕ → R) (r : ℕ) → stack m a b r ≡ ins m (b 0) (stack m a (λ i. b (suc i))) r
  stack_split zero a b zero = refl
  stack_split zero a b (suc r) = refl
  stack_split (suc m) a b zero = refl
  stack_split (suc m) a b (suc r) = stack_split m (λ i. a (suc i)) b r

  pub rise : {m n : ℕ} {D : (ℕ → ℕ → R) → R} → Form 𝓡 (suc m) n D → (j : ℕ) → j < suc m → (v : ℕ → R) (b : ℕ → ℕ → R)
      → D (ins j v b) ≡ sgn 𝓡 j (D (ins 0 v b))
  rise {D = D} F j l v b = sym (sgn_twice 𝓡 j (D (ins j v b))) ∙ ap (sgn 𝓡 j) (sym (sink 𝓡 F j l v b))

  -- the blocks change places
  pub blocks : {N k : ℕ} {D : (ℕ → ℕ → R) → R} → Form 𝓡 N k D → (m n : ℕ) → N ≡ m +ℕ n → (a b : ℕ → ℕ → R)
      → D (stack m a b) ≡ sgn 𝓡 (n *ℕ m) (D (stack n b a))
  blocks {D = D} F m zero h a b =
      F.cong (stack m a b) a (λ r c p q. ap (λ (v : ℕ → R). v c) (stack_top m a b r (omega arith)))
      ∙ ap (λ (j : ℕ). sgn 𝓡 j (D a)) (none m)
    where
      none : (m : ℕ) → 0 ≡ 0 *ℕ m
      none m = omega arith
  blocks {N = zero} F m (suc n) h a b = absurd (omega arith)
  blocks {N = suc N} {D = D} F m (suc n) h a b =
      ap D (fun_ext (stack_split m a b)) ∙ rise F m (omega arith) (b 0) (stack m a (λ i. b (suc i)))
      ∙ ap (sgn 𝓡 m) (blocks {N = N} (fix_top 𝓡 F (b 0)) m n (omega arith) a (λ i. b (suc i)))
      ∙ sym (sgn_add 𝓡 m (n *ℕ m) _)
      ∙ ap₂ (λ (j : ℕ) (x : ℕ → ℕ → R). sgn 𝓡 j (D x)) (more n m) (fun_ext (elim [ zero ↦ refl | suc r ↦ refl ]))
    where
      more : (n m : ℕ) → m +ℕ n *ℕ m ≡ suc n *ℕ m
      more n m = omega arith

  -- the rows in the other order
  pub backward : {n k : ℕ} {D : (ℕ → ℕ → R) → R} → Form 𝓡 n k D → (a : ℕ → ℕ → R) → D (back n a) ≡ sgn 𝓡 (tri n) (D a)
  backward {n = zero} F a = refl
  backward {n = suc n} {D = D} F a =
      ap D (fun_ext (elim [ zero ↦ refl | suc r ↦ refl ])) ∙ backward {n = n} (fix_top 𝓡 F (a n)) a
      ∙ ap (sgn 𝓡 (tri n)) (sink 𝓡 F n (omega arith) (a n) a
      ∙ ap (sgn 𝓡 n) (F.cong _ a (λ r c p q. ap (λ (v : ℕ → R). v c) (last n a r (omega arith)))))
      ∙ sym (sgn_add 𝓡 (tri n) n (D a)) ∙ ap (λ (j : ℕ). sgn 𝓡 j (D a)) (comm (tri n) n)
    where
      comm : (x y : ℕ) → x +ℕ y ≡ y +ℕ x
      comm x y = omega arith

      last : (n : ℕ) (a : ℕ → ℕ → R) (r : ℕ) → r ≤ n → ins n (a n) a r ≡ a r
      last zero a zero l = refl
      last zero a (suc r) l = absurd (omega arith)
      last (suc n) a zero l = refl
      last (suc n) a (suc r) l = last n (λ i. a (suc i)) r (omega arith)

  -- the first m rows of a form fixed
  pub fix_rows : {q n : ℕ} (m : ℕ) {D : (ℕ → ℕ → R) → R} → Form 𝓡 (up m q) n D → (a : ℕ → ℕ → R) → Form 𝓡 q n (λ b. D (stack m a b))
  fix_rows zero F a = F
  fix_rows {q} {n} (suc m) {D} F a =
      subst (Form 𝓡 q n) (fun_ext (λ b. ap D (fun_ext (elim [ zero ↦ refl | suc r ↦ refl ]))))
      (fix_rows m (fix_top 𝓡 F (a 0)) (λ i. a (suc i)))

  pub over_stack : (m : ℕ) (x a b : ℕ → ℕ → R) (r : ℕ) → over 𝓡 m x (stack m a b) r ≡ stack m x b r
  over_stack zero x a b r = refl
  over_stack (suc m) x a b zero = refl
  over_stack (suc m) x a b (suc r) = over_stack m (λ i. x (suc i)) (λ i. a (suc i)) b r

  -- a linear function that vanishes at some rows
  pub absorb : (G : (ℕ → R) → R) → ((c : R) (v u : ℕ → R) → G (comb 𝓡 c v u) ≡ c * G v + G u)
      → (k : ℕ) (x : ℕ → R) (w : ℕ → ℕ → R) (u : ℕ → R) → ((i : ℕ) → i < k → G (w i) ≡ 𝟘) → G (λ s. sum 𝓡 k (λ i. x i * w i s) + u s) ≡ G u
  absorb G l zero x w u h = ap G (fun_ext (λ s. zero_add (u s)))
  absorb G l (suc k) x w u h =
      ap G (fun_ext (λ s. add_assoc (x 0 * w 0 s) (sum 𝓡 k (λ i. x (suc i) * w (suc i) s)) (u s)))
      ∙ l (x 0) (w 0) (λ s. sum 𝓡 k (λ i. x (suc i) * w (suc i) s) + u s)
      ∙ ap₂ (λ y z. x 0 * y + z) (h 0 (omega arith)) (absorb G l k (λ i. x (suc i)) (λ i. w (suc i)) u (λ i p. h (suc i) (omega arith)))
      ∙ simp (mul_zero 𝓡, zero_add)

  -- combinations of the last q rows are added to the first m
  pub absorb_rows : (m q n : ℕ) {D : (ℕ → ℕ → R) → R} → Form 𝓡 (up m q) n D → (x a a' b : ℕ → ℕ → R)
      → ((i c : ℕ) → i < m → a' i c ≡ sum 𝓡 q (λ k. x i k * b k c) + a i c) → D (stack m a' b) ≡ D (stack m a b)
  absorb_rows zero q n F x a a' b h = refl
  absorb_rows (suc m) q n {D} F x a a' b h =
      let t : ℕ → ℕ → R = stack m (λ i. a' (suc i)) b in
      ap D (split a')
      ∙ ap (λ (v : ℕ → R). D (ins 0 v t)) (fun_ext (λ c. h 0 c (omega arith)))
      ∙ absorb (λ v. D (ins 0 v t)) (λ c v u. F.lin 0 (omega arith) c v u t) q (x 0) b (a 0)
      (λ k l. equal F 0 (suc (up m k)) (omega arith) (omega (arith, up_is m k, up_is m q)) (ins 0 (b k) t)
      (λ c p. ap (λ (v : ℕ → R). v c) (sym (stack_bottom m (λ i. a' (suc i)) b k))))
      ∙ absorb_rows m q n (fix_top 𝓡 F (a 0)) (λ i. x (suc i)) (λ i. a (suc i)) (λ i. a' (suc i)) b (λ i c l. h (suc i) c (omega arith))
      ∙ ap D (sym (split a))
    where
      split : (a : ℕ → ℕ → R) → stack (suc m) a b ≡ ins 0 (a 0) (stack m (λ i. a (suc i)) b)
      split a = fun_ext (elim [ zero ↦ refl | suc r ↦ refl ])
