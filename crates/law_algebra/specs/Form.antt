-- Alternating forms and their uniqueness: a form of n rows and n columns is the determinant times its value at the unit matrix. Every later
-- theorem on determinants builds a form and applies this. From it: expansion along the first row, and the determinant of the transposed
-- matrix.
--
--   Form m n D      D reads m rows of n columns, is linear in each row, and 0 where two neighbouring rows are equal
--   Linear n n' g   g maps rows of n entries linearly to rows of n'
--   pull, fix_top   forms made from forms: along a linear map of rows; with the top row fixed
--   swap, sink      rows that change places; the top row moved down
--   e j             the rows of the unit matrix
--   rdet            the expansion along the first row
--   unique          D a = det a · D e
--
-- Letters: D is a form; F says that it is one; m is the number of rows, n of columns; a, b are matrices, u, v, w rows.
use Rattle.std.specs.Prelude.{◌≡◌}
use Rattle.std.proofs.Math.Path.{refl, sym, ap, fun_ext}
use Rattle.std.proofs.Common.{◌∙◌, ap₂, arith}
use Prim.Native.Nat.{ℕ, zero, suc, ◌<◌}
use Rattle.law_algebra.specs.Determinant.{det_alt, det_upper, det, det_cong, prod, comb, det_lin}
use Rattle.law_algebra.specs.Index.{ins, skip, ins_eta, View, here, there, view, skip_lt⁻, ins_at, ins_skip, ins_map, ins_comm}
use Rattle.law_algebra.specs.Ring.{CRing, add_zero, add_neg, add_cancel, mul_zero, mul_one}
use Rattle.law_algebra.specs.Sum.{sum, sum_cong, alt, sgn, alt_cong, alt_sum, sum_zero, sum_mul, sgn_assoc}

module _ {R : Type 0} (𝓡 : CRing R) where
  open 𝓡 use {add as ◌+◌, mul as ◌*◌, neg as -◌, nil as 𝟘, unit as 𝟙, add_comm, zero_add, neg_add, one_mul}

  infixl 65 ◌+◌
  infixl 70 ◌*◌
  infix 75 -◌
  pub record Form (m n : ℕ) (D : (ℕ → ℕ → R) → R) : Type 0 where
    pub cong : (a b : ℕ → ℕ → R) → ((r c : ℕ) → r < m → c < n → a r c ≡ b r c) → D a ≡ D b
    pub lin : (k : ℕ) → k < m → (c : R) (v u : ℕ → R) (b : ℕ → ℕ → R) → D (ins k (comb 𝓡 c v u) b) ≡ c * D (ins k v b) + D (ins k u b)
    pub two : (k : ℕ) → suc k < m → (v : ℕ → R) (b : ℕ → ℕ → R) → D (ins k v (ins k v b)) ≡ 𝟘

  pub det_form : (n : ℕ) → Form n n (det 𝓡 n)
  det_form n = record { cong = det_cong 𝓡 n; lin = det_lin 𝓡 n; two = det_alt 𝓡 n }

  -- the form with its top row fixed
  pub fix_top : {m n : ℕ} {D : (ℕ → ℕ → R) → R} → Form (suc m) n D → (p : ℕ → R) → Form m n (λ b. D (ins 0 p b))
  fix_top {m} {n} {D} F p = record {
    cong = λ a b h. F.cong (ins 0 p a) (ins 0 p b) (top a b h);
    lin = λ k l c v u b. ap D (down1 k (comb 𝓡 c v u) b) ∙ F.lin (suc k) (omega arith) c v u (ins 0 p b)
        ∙ ap₂ (λ x y. c * D x + D y) (sym (down1 k v b)) (sym (down1 k u b));
    two = λ k l v b. ap D (down1 k v (ins k v b) ∙ ap (ins (suc k) v) (down1 k v b)) ∙ F.two (suc k) (omega arith) v (ins 0 p b);
  }
    where
      top : (a b : ℕ → ℕ → R) → ((r c : ℕ) → r < m → c < n → a r c ≡ b r c) → (r c : ℕ) → r < suc m → c < n → ins 0 p a r c ≡ ins 0 p b r c
      top a b h zero c x y = refl
      top a b h (suc r) c x y = h r c (omega arith) y

      down1 : (k : ℕ) (w : ℕ → R) (b : ℕ → ℕ → R) → ins 0 p (ins k w b) ≡ ins (suc k) w (ins 0 p b)
      down1 k w b = fun_ext (ins_comm 0 k (omega arith) p w b)

  -- a map of rows that is linear, and reads below n only to answer below n'
  pub record Linear (n n' : ℕ) (g : (ℕ → R) → ℕ → R) : Type 0 where
    pub reads : (v u : ℕ → R) → ((c : ℕ) → c < n → v c ≡ u c) → (c : ℕ) → c < n' → g v c ≡ g u c
    pub keeps : (c : R) (v u : ℕ → R) (j : ℕ) → g (comb 𝓡 c v u) j ≡ comb 𝓡 c (g v) (g u) j

  pub pull : {m n n' : ℕ} {D : (ℕ → ℕ → R) → R} {g : (ℕ → R) → ℕ → R} → Form m n' D → Linear n n' g → Form m n (λ b. D (λ r. g (b r)))
  pull {m} {n} {n'} {D} {g} F L = record {
    cong = λ a b h. F.cong (λ r. g (a r)) (λ r. g (b r)) (λ r c p q. L.reads (a r) (b r) (λ j l. h r j p l) c q);
    lin = λ k l c v u b. ap D (mapped k (comb 𝓡 c v u) b ∙ ap (λ w. ins k w (λ r. g (b r))) (fun_ext (L.keeps c v u)))
        ∙ F.lin k l c (g v) (g u) (λ r. g (b r)) ∙ ap₂ (λ x y. c * D x + D y) (sym (mapped k v b)) (sym (mapped k u b));
    two = λ k l v b. ap D (mapped k v (ins k v b) ∙ ap (ins k (g v)) (mapped k v b)) ∙ F.two k l (g v) (λ r. g (b r));
  }
    where
      mapped : (k : ℕ) (w : ℕ → R) (b : ℕ → ℕ → R) → (λ r. g (ins k w b r)) ≡ ins k (g w) (λ r. g (b r))
      mapped k w b = fun_ext (ins_map g k w b)

  -- neighbours change places: the sign changes
  pub bilinear : (G : (ℕ → R) → (ℕ → R) → R) → ((c : R) (v u w : ℕ → R) → G (comb 𝓡 c v u) w ≡ c * G v w + G u w)
      → ((c : R) (v u w : ℕ → R) → G w (comb 𝓡 c v u) ≡ c * G w v + G w u) → ((v : ℕ → R) → G v v ≡ 𝟘) → (u v : ℕ → R) → G u v ≡ - G v u
  bilinear G l r z u v =
      add_cancel 𝓡 (G v u) (G u v) (- G v u)
      (add_comm (G v u) (G u v) ∙ (simp (l, r, z, one_mul, add_zero 𝓡, zero_add) at (z (comb 𝓡 𝟙 u v))) ∙ sym (add_neg 𝓡 (G v u)))

  pub swap : {m n : ℕ} {D : (ℕ → ℕ → R) → R} → Form m n D → (k : ℕ) → suc k < m → (u v : ℕ → R) (b : ℕ → ℕ → R)
      → D (ins k u (ins k v b)) ≡ - D (ins k v (ins k u b))
  swap {m} {n} {D} F k l u v b =
      bilinear (λ u v. D (ins k u (ins k v b))) (λ c v u w. F.lin k (omega arith) c v u (ins k w b))
      (λ c v u w. ap D (over w (comb 𝓡 c v u)) ∙ F.lin (suc k) l c v u (ins k w b)
      ∙ ap₂ (λ x y. c * D x + D y) (sym (over w v)) (sym (over w u)))
      (λ v. F.two k l v b) u v
    where
      over : (x y : ℕ → R) → ins k x (ins k y b) ≡ ins (suc k) y (ins k x b)
      over x y = fun_ext (ins_comm k k (omega arith) x y b)

  -- the matrix by its top row and the rest
  top : (a : ℕ → ℕ → R) → a ≡ ins 0 (a 0) (λ r. a (suc r))
  top a = sym (ins_eta 0 a)

  -- the top row goes down j places
  pub sink : {m n : ℕ} {D : (ℕ → ℕ → R) → R} → Form (suc m) n D → (j : ℕ) → j < suc m → (v : ℕ → R) (b : ℕ → ℕ → R)
      → D (ins 0 v b) ≡ sgn 𝓡 j (D (ins j v b))
  sink F zero l v b = refl
  sink {m = zero} F (suc j) l v b = absurd (omega arith)
  sink {m = suc m} {D = D} F (suc j) l v b =
      ap (λ x. D (ins 0 v x)) (top b) ∙ swap F 0 (omega arith) v (b 0) (λ r. b (suc r))
      ∙ ap (λ x. - x) (sink {m = m} (fix_top F (b 0)) j (omega arith) v (λ r. b (suc r))
      ∙ ap (λ x. sgn 𝓡 j (D x)) (fun_ext (elim [ zero ↦ refl | suc r ↦ refl ])))

  -- multiples of the top row are added to the others
  pub add_top : {m n : ℕ} {D : (ℕ → ℕ → R) → R} → Form (suc m) n D → (p : ℕ → R) (c : ℕ → R) (b : ℕ → ℕ → R)
      → D (ins 0 p b) ≡ D (ins 0 p (λ r. comb 𝓡 (c r) p (b r)))
  add_top {m = zero} F p c b = F.cong _ _ (elim [ zero ↦ λ j x y. refl | suc r ↦ λ j x y. absurd (omega arith) ])
  add_top {m = suc m} {D = D} F p c b =
      let t : ℕ → ℕ → R = λ r. comb 𝓡 (c (suc r)) p (b (suc r)) in
      ap (λ x. D (ins 0 p x)) (top b) ∙ swap F 0 (omega arith) p (b 0) (λ r. b (suc r))
      ∙ ap (λ x. - x) (add_top {m = m} (fix_top F (b 0)) p (λ r. c (suc r)) (λ r. b (suc r))) ∙ sym (swap F 0 (omega arith) p (b 0) t)
      ∙ sym (zero_add (D (ins 0 p (ins 0 (b 0) t)))) ∙ ap (λ x. x + D (ins 0 p (ins 0 (b 0) t)))
      (sym (mul_zero 𝓡 (c 0)) ∙ ap (λ x. c 0 * x) (sym (F.two 0 (omega arith) p t)))
      ∙ sym ((fix_top F p).lin 0 (omega arith) (c 0) p (b 0) t) ∙ ap (λ x. D (ins 0 p x)) (sym (top (λ r. comb 𝓡 (c r) p (b r))))

  -- the rows of the unit matrix
  abbrev pub e : ℕ → ℕ → R
  e zero zero = 𝟙
  e zero (suc c) = 𝟘
  e (suc r) zero = 𝟘
  e (suc r) (suc c) = e r c

  pub e_own : (j : ℕ) → e j j ≡ 𝟙
  e_own zero = refl
  e_own (suc j) = e_own j

  pub e_row : (j c : ℕ) → e j (skip j c) ≡ 𝟘
  e_row zero c = refl
  e_row (suc j) zero = refl
  e_row (suc j) (suc c) = e_row j c

  pub e_col : (j r : ℕ) → e (skip j r) j ≡ 𝟘
  e_col zero r = refl
  e_col (suc j) zero = refl
  e_col (suc j) (suc r) = e_col j r

  pub e_skip : (j r c : ℕ) → e (skip j r) (skip j c) ≡ e r c
  e_skip zero r c = refl
  e_skip (suc j) zero zero = refl
  e_skip (suc j) zero (suc c) = refl
  e_skip (suc j) (suc r) zero = refl
  e_skip (suc j) (suc r) (suc c) = e_skip j r c

  -- a row is the sum of its entries times the unit rows
  pub basis : (n : ℕ) (v : ℕ → R) (x : ℕ) → x < n → v x ≡ sum 𝓡 n (λ j. v j * e j x)
  basis zero v x l = absurd (omega arith)
  basis (suc n) v zero l = sym (ap₂ ◌+◌ (mul_one 𝓡 (v 0)) (sum_zero 𝓡 n _ (λ i p. mul_zero 𝓡 (v (suc i)))) ∙ add_zero 𝓡 (v 0))
  basis (suc n) v (suc x) l = sym (ap₂ ◌+◌ (mul_zero 𝓡 (v 0)) (sym (basis n (λ i. v (suc i)) x (omega arith))) ∙ zero_add (v (suc x)))

  -- a linear function of a sum of rows
  pub spread : (G : (ℕ → R) → R) → ((c : R) (v u : ℕ → R) → G (comb 𝓡 c v u) ≡ c * G v + G u)
      → (n : ℕ) (v : ℕ → R) (w : ℕ → ℕ → R) → G (λ x. sum 𝓡 n (λ j. v j * w j x)) ≡ sum 𝓡 n (λ j. v j * G (w j))
  spread G l zero v w =
      let z : ℕ → R = λ x. 𝟘 in
      add_cancel 𝓡 (G z) (G z) 𝟘 (ap (λ x. x + G z) (sym (one_mul (G z))) ∙ sym (l 𝟙 z z) ∙ ap G (fun_ext (λ x. simp (one_mul, add_zero 𝓡)))
      ∙ sym (add_zero 𝓡 (G z)))
  spread G l (suc n) v w = l (v 0) (w 0) (λ x. sum 𝓡 n (λ j. v (suc j) * w (suc j) x))
      ∙ ap (λ y. v 0 * G (w 0) + y) (spread G l n (λ i. v (suc i)) (λ i. w (suc i)))

  -- a column of zeros put in at j
  gap : (j n : ℕ) → j < suc n → Linear n (suc n) (ins j 𝟘)
  gap j n l = record { reads = λ v u h c p. reads v u h c p (view j c); keeps = λ c v u x. keeps c v u x (view j x) }
    where
      reads : (v u : ℕ → R) → ((c : ℕ) → c < n → v c ≡ u c) → (c : ℕ) → c < suc n → View j c → ins j 𝟘 v c ≡ ins j 𝟘 u c
      reads v u h c p here = simp ins_at
      reads v u h c p (there s) = ins_skip j 𝟘 v s ∙ h s (skip_lt⁻ j s n l p) ∙ sym (ins_skip j 𝟘 u s)

      keeps : (c : R) (v u : ℕ → R) (x : ℕ) → View j x → ins j 𝟘 (comb 𝓡 c v u) x ≡ c * ins j 𝟘 v x + ins j 𝟘 u x
      keeps c v u x here = simp (ins_at, mul_zero 𝓡, zero_add)
      keeps c v u x (there s) = simp ins_skip

  -- a row less its j-th entry times the j-th unit row
  cleared : (j : ℕ) (v : ℕ → R) (x : ℕ) → View j x → (- v j) * e j x + v x ≡ ins j 𝟘 (λ c. v (skip j c)) x
  cleared j v x here = simp (e_own, ins_at, mul_one 𝓡, neg_add)
  cleared j v x (there s) = simp (e_row, ins_skip, mul_zero 𝓡, zero_add)

  unit : (j r c : ℕ) → View j r → View j c → ins j (e j) (λ r. ins j 𝟘 (e r)) r c ≡ e r c
  unit j r c here w = ap (λ v. v c) (ins_at j (e j) (λ r. ins j 𝟘 (e r)))
  unit j r c (there s) here = ap (λ v. v j) (ins_skip j (e j) (λ r. ins j 𝟘 (e r)) s) ∙ simp (ins_at, e_col)
  unit j r c (there s) (there t) = ap (λ v. v (skip j t)) (ins_skip j (e j) (λ r. ins j 𝟘 (e r)) s) ∙ simp (ins_skip, e_skip)

  -- the expansion along the first row
  unfoldable pub rdet : ℕ → (ℕ → ℕ → R) → R
  rdet zero a = 𝟙
  rdet (suc n) a = alt 𝓡 (suc n) (λ j. a 0 j * rdet n (λ r c. a (suc r) (skip j c)))

  Unique : ℕ → Type 0
  Unique n = (D : (ℕ → ℕ → R) → R) → Form n n D → (a : ℕ → ℕ → R) → D a ≡ rdet n a * D e

  expand : {n : ℕ} → Unique n → {D : (ℕ → ℕ → R) → R} → Form (suc n) (suc n) D → (j : ℕ) → j < suc n → (t : ℕ → ℕ → R)
      → D (ins 0 (e j) t) ≡ rdet n (λ r c. t r (skip j c)) * sgn 𝓡 j (D e)
  unfolding Unique
  expand {n} ih {D} F j l t =
      add_top F (e j) (λ r. - t r j) t ∙ ap (λ x. D (ins 0 (e j) x)) (fun_ext (λ r. fun_ext (λ c. cleared j (t r) c (view j c))))
      ∙ ih _ (pull (fix_top F (e j)) (gap j n l)) (λ r c. t r (skip j c))
      ∙ ap (λ x. rdet n (λ r c. t r (skip j c)) * x)
      (sink F j l (e j) (λ r. ins j 𝟘 (e r)) ∙ ap (λ x. sgn 𝓡 j (D x)) (fun_ext (λ r. fun_ext (λ c. unit j r c (view j r) (view j c)))))

  pub row_unique : (n : ℕ) {D : (ℕ → ℕ → R) → R} → Form n n D → (a : ℕ → ℕ → R) → D a ≡ rdet n a * D e
  unfolding rdet Unique
  row_unique zero {D} F a = F.cong a e (λ r c p q. absurd (omega arith)) ∙ sym (one_mul (D e))
  row_unique (suc n) {D} F a =
      let t : ℕ → ℕ → R = λ r. a (suc r) in
      let q : ℕ → R = λ j. a 0 j * rdet n (λ r c. a (suc r) (skip j c)) in
      ap D (top a)
      ∙ F.cong _ (ins 0 (λ x. sum 𝓡 (suc n) (λ j. a 0 j * e j x)) t)
      (elim [ zero ↦ λ c x y. basis (suc n) (a 0) c y | suc r ↦ λ c x y. refl ])
      ∙ spread (λ v. D (ins 0 v t)) (λ c v u. F.lin 0 (omega arith) c v u t) (suc n) (a 0) e
      ∙ sum_cong 𝓡 (suc n) _ (λ j. sgn 𝓡 j (q j) * D e) (λ j l. ap (λ x. a 0 j * x) (expand (λ D' F'. row_unique n {D = D'} F') F j l t)
      ∙ sgn_assoc 𝓡 j (a 0 j) (rdet n (λ r c. t r (skip j c))) (D e))
      ∙ sym (sum_mul 𝓡 (suc n) (D e) (λ j. sgn 𝓡 j (q j))) ∙ ap (λ x. x * D e) (sym (alt_sum 𝓡 (suc n) q))

  pub e_low : (r c : ℕ) → c < r → e r c ≡ 𝟘
  e_low zero c l = absurd (omega arith)
  e_low (suc r) zero l = refl
  e_low (suc r) (suc c) l = e_low r c (omega arith)

  pub det_e : (n : ℕ) → det 𝓡 n e ≡ 𝟙
  unfolding det
  det_e n = det_upper 𝓡 n e (λ r c p q. e_low r c q) ∙ go n
    where
      go : (n : ℕ) → prod 𝓡 n (λ i. e i i) ≡ 𝟙
      go zero = refl
      go (suc n) = one_mul (prod 𝓡 n (λ i. e i i)) ∙ go n

  -- the expansions along the first row and along the first column agree
  pub det_rdet : (n : ℕ) (a : ℕ → ℕ → R) → det 𝓡 n a ≡ rdet n a
  det_rdet n a = row_unique n (det_form n) a ∙ ap (λ x. rdet n a * x) (det_e n) ∙ mul_one 𝓡 (rdet n a)

  -- UNIQUENESS of the alternating form
  pub unique : (n : ℕ) {D : (ℕ → ℕ → R) → R} → Form n n D → (a : ℕ → ℕ → R) → D a ≡ det 𝓡 n a * D e
  unique n {D} F a = row_unique n F a ∙ ap (λ x. x * D e) (sym (det_rdet n a))

  rdet_flip : (n : ℕ) (a : ℕ → ℕ → R) → rdet n a ≡ det 𝓡 n (λ r c. a c r)
  unfolding rdet det
  rdet_flip zero a = refl
  rdet_flip (suc n) a = alt_cong 𝓡 (suc n) _ _ (λ j l. ap (λ x. a 0 j * x) (rdet_flip n (λ r c. a (suc r) (skip j c))))

  pub det_transpose : (n : ℕ) (a : ℕ → ℕ → R) → det 𝓡 n (λ r c. a c r) ≡ det 𝓡 n a
  det_transpose n a = sym (det_rdet n a ∙ rdet_flip n a)
