-- The determinant over a commutative ring, by Laplace's expansion along the first column, and its first laws: congruence, linear in each
-- row, 0 where two neighbouring rows are equal, triangular matrices, and maps of rings. A matrix is a function of row and column; only the
-- entries below n count.
--
--   comb c v u      the row c v + u
--   minor i a       a without row i and column 0
--   det n a         the determinant of the first n rows and columns
--   prod n f        f 0 · … · f (n - 1)
--
-- Letters: a, b are matrices; u, v, w rows; r, c a row's and a column's number.
use Rattle.std.specs.Prelude.{◌≡◌}
use Rattle.std.proofs.Math.Path.{refl, ap, ap₂, fun_ext}
use Rattle.std.proofs.Common.{sym, ◌∙◌, arith}
use Prim.Native.Nat.{ℕ, zero, suc, ◌<◌}
use Rattle.law_algebra.specs.Index.{ins, skip, View, here, there, view, skip_lt, skip_lt⁻, skip_self, down}
use Rattle.law_algebra.specs.Index.{down_lt, down_self, down_skip, ins_at, ins_skip, ins_minor, ins_map}
use Rattle.law_algebra.specs.Ring.{CRing, add_zero, mul_zero, mul_left_comm, add_mul, Hom, neg_zero, zero_mul, pw}
use Rattle.law_algebra.specs.Stack.{up}
use Rattle.law_algebra.specs.Sum.{alt, alt_zero, alt_cong, alt_lin, alt_adj}

module _ {R : Type 0} (𝓡 : CRing R) where
  open 𝓡 use {add as ◌+◌, mul as ◌*◌, neg as -◌, nil as 𝟘, unit as 𝟙, mul_assoc, mul_comm, one_mul, mul_add}

  infixl 65 ◌+◌
  infixl 70 ◌*◌
  infix 75 -◌
  abbrev pub comb : R → (ℕ → R) → (ℕ → R) → ℕ → R
  comb c v u j = c * v j + u j

  abbrev pub minor : ℕ → (ℕ → ℕ → R) → ℕ → ℕ → R
  minor i a r c = a (skip i r) (suc c)

  unfoldable pub det : ℕ → (ℕ → ℕ → R) → R
  det zero a = 𝟙
  det (suc n) a = alt 𝓡 (suc n) (λ i. a i 0 * det n (minor i a))

  -- it depends on the entries below n only
  pub det_cong : (n : ℕ) (a b : ℕ → ℕ → R) → ((r c : ℕ) → r < n → c < n → a r c ≡ b r c) → det n a ≡ det n b
  unfolding det
  det_cong zero a b h = refl
  det_cong (suc n) a b h =
      alt_cong 𝓡 (suc n) _ _ (λ i l. ap₂ ◌*◌ (h i 0 l (omega arith))
      (det_cong n (minor i a) (minor i b) (λ r c p q. h (skip i r) (suc c) (skip_lt i r n p) (omega arith))))

  -- the minors of a matrix with the row w put in at k: the row's own, and another's
  minor_own : (k : ℕ) (w : ℕ → R) (b : ℕ → ℕ → R) → minor k (ins k w b) ≡ (λ r c. b r (suc c))
  minor_own k w b = fun_ext (λ r. ap (λ v c. v (suc c)) (ins_skip k w b r))

  minor_other : (k i : ℕ) (w : ℕ → R) (b : ℕ → ℕ → R) → minor (skip k i) (ins k w b) ≡ ins (down k i) (λ c. w (suc c)) (minor i b)
  minor_other k i w b = fun_ext (λ r. ap (λ v c. v (suc c)) (ins_minor k i w b r)
      ∙ ins_map (λ v c. v (suc c)) (down k i) w (λ s. b (skip i s)) r)

  term : ℕ → (ℕ → ℕ → R) → ℕ → R
  term n a i = a i 0 * det n (minor i a)

  term_own : (n k : ℕ) (w : ℕ → R) (b : ℕ → ℕ → R) → term n (ins k w b) k ≡ w 0 * det n (λ r c. b r (suc c))
  unfolding term
  term_own n k w b = ap₂ ◌*◌ (ap (λ v. v 0) (ins_at k w b)) (ap (det n) (minor_own k w b))

  term_other : (n k i : ℕ) (w : ℕ → R) (b : ℕ → ℕ → R) → term n (ins k w b) (skip k i) ≡ b i 0 * det n
      (ins (down k i) (λ c. w (suc c)) (minor i b))
  unfolding term
  term_other n k i w b = ap₂ ◌*◌ (ap (λ v. v 0) (ins_skip k w b i)) (ap (det n) (minor_other k i w b))

  Lin : ℕ → Type 0
  Lin n = (k : ℕ) → k < n → (c : R) (v u : ℕ → R) (b : ℕ → ℕ → R) → det n (ins k (comb c v u) b) ≡ c * det n (ins k v b) + det n (ins k u b)

  term_lin : (n k : ℕ) → Lin n → k < suc n → (c : R) (v u : ℕ → R) (b : ℕ → ℕ → R) (i : ℕ) → View k i → i < suc n
      → term n (ins k (comb c v u) b) i ≡ c * term n (ins k v b) i + term n (ins k u b) i
  unfolding Lin
  term_lin n k ih l c v u b i here p = simp term_own (simp (add_mul 𝓡, mul_assoc))
  term_lin n k ih l c v u b i (there s) p =
      simp (term_other, ih (down k s) (down_lt k s n l (skip_lt⁻ k s n l p))) (simp (mul_add, mul_assoc, mul_comm, mul_left_comm 𝓡))

  -- linear in each row
  pub det_lin : (n k : ℕ) → k < n → (c : R) (v u : ℕ → R) (b : ℕ → ℕ → R)
      → det n (ins k (comb c v u) b) ≡ c * det n (ins k v b) + det n (ins k u b)
  unfolding det term Lin
  det_lin zero k l c v u b = absurd (omega arith)
  det_lin (suc n) k l c v u b =
      alt_lin 𝓡 (suc n) c (term n (ins k (comb c v u) b)) (term n (ins k v b)) (term n (ins k u b))
      (λ i p. term_lin n k (det_lin n) l c v u b i (view k i) p)

  Alt : ℕ → Type 0
  Alt n = (k : ℕ) → suc k < n → (v : ℕ → R) (b : ℕ → ℕ → R) → det n (ins k v (ins k v b)) ≡ 𝟘

  -- the rows k and k + 1 are both v: their terms cancel, and every other term has such a minor
  term_two : (m k : ℕ) → Alt (suc m) → k < suc m → (v : ℕ → R) (b : ℕ → ℕ → R) (i : ℕ) → i < m
      → term (suc m) (ins k v (ins k v b)) (skip k (skip k i)) ≡ 𝟘
  unfolding Alt
  term_two m k ih l v b i p =
      term_other (suc m) k (skip k i) v (ins k v b)
      ∙ ap (λ x. ins k v b (skip k i) 0 * x)
      (ap₂ (λ j x. det (suc m) (ins j (λ c. v (suc c)) x)) (down_skip k i) (minor_other k i v b)
      ∙ ih (down k i) (omega (arith, down_lt k i m l p)) (λ c. v (suc c)) (minor i b))
      ∙ mul_zero 𝓡 (ins k v b (skip k i) 0)

  term_next : (n k : ℕ) (v : ℕ → R) (b : ℕ → ℕ → R) → term n (ins k v (ins k v b)) k ≡ term n (ins k v (ins k v b)) (suc k)
  term_next n k v b =
      term_own n k v (ins k v b)
      ∙ ap₂ ◌*◌ (ap (λ w. w 0) (sym (ins_at k v b)))
      (ap (det n) (fun_ext (ins_map (λ w c. w (suc c)) k v b)
      ∙ ap₂ (λ j x. ins j (λ c. v (suc c)) x) (sym (down_self k)) (sym (minor_own k v b))))
      ∙ sym (term_other n k k v (ins k v b)) ∙ ap (term n (ins k v (ins k v b))) (skip_self k)

  pub det_alt : (n k : ℕ) → suc k < n → (v : ℕ → R) (b : ℕ → ℕ → R) → det n (ins k v (ins k v b)) ≡ 𝟘
  unfolding det term Alt
  det_alt zero k l v b = absurd (omega arith)
  det_alt (suc zero) k l v b = absurd (omega arith)
  det_alt (suc (suc m)) k l v b =
      alt_adj 𝓡 k m (term (suc m) (ins k v (ins k v b))) (omega arith) (term_next (suc m) k v b)
      (term_two m k (det_alt (suc m)) (omega arith) v b)

  -- upper triangular: the product of the diagonal
  abbrev pub prod : ℕ → (ℕ → R) → R
  prod zero f = 𝟙
  prod (suc n) f = f zero * prod n (λ i. f (suc i))

  pub det_upper : (n : ℕ) (a : ℕ → ℕ → R) → ((r c : ℕ) → r < n → c < r → a r c ≡ 𝟘) → det n a ≡ prod n (λ i. a i i)
  unfolding det
  det_upper zero a h = refl
  det_upper (suc n) a h =
      ap₂ (λ x y. a 0 0 * x + (- y)) (det_upper n (minor 0 a) (λ r c p q. h (suc r) (suc c) (omega arith) (omega arith)))
      (alt_zero 𝓡 n _ (λ i l. ap (λ x. x * det n (minor (suc i) a)) (h (suc i) 0 (omega arith) (omega arith)) ∙ zero_mul 𝓡 _))
      ∙ simp (neg_zero 𝓡, add_zero 𝓡)

  pub prod_const : (n : ℕ) (f : ℕ → R) (x : R) → ((i : ℕ) → i < n → f i ≡ x) → prod n f ≡ pw 𝓡 x n
  prod_const zero f x h = refl
  prod_const (suc n) f x h = ap₂ ◌*◌ (h 0 (omega arith)) (prod_const n (λ i. f (suc i)) x (λ i l. h (suc i) (omega arith)))

  pub prod_up : (n p : ℕ) (f : ℕ → R) (x : R) → ((i : ℕ) → i < n → f i ≡ x) → ((i : ℕ) → i < p → f (up n i) ≡ 𝟙)
      → prod (up n p) f ≡ pw 𝓡 x n
  prod_up zero p f x h g = prod_const p f 𝟙 g ∙ ones p
    where
      ones : (p : ℕ) → pw 𝓡 𝟙 p ≡ 𝟙
      ones zero = refl
      ones (suc p) = one_mul (pw 𝓡 𝟙 p) ∙ ones p
  prod_up (suc n) p f x h g = ap₂ ◌*◌ (h 0 (omega arith)) (prod_up n p (λ i. f (suc i)) x (λ i l. h (suc i) (omega arith)) g)

module _ {R S : Type 0} (𝓡 : CRing R) (𝓢 : CRing S) (φ : R → S) (H : Hom 𝓡 𝓢 φ) where
  alt_hom : (n : ℕ) (f : ℕ → R) → φ (alt 𝓡 n f) ≡ alt 𝓢 n (λ i. φ (f i))
  alt_hom zero f = H.h_zero
  alt_hom (suc n) f = simp (H.h_add, H.h_neg, alt_hom n (λ i. f (suc i)))

  pub det_hom : (n : ℕ) (a : ℕ → ℕ → R) → φ (det 𝓡 n a) ≡ det 𝓢 n (λ r c. φ (a r c))
  unfolding det
  det_hom zero a = H.h_one
  det_hom (suc n) a =
      alt_hom (suc n) (λ i. 𝓡.mul (a i 0) (det 𝓡 n (minor 𝓡 i a)))
      ∙ alt_cong 𝓢 (suc n) _ _ (λ i l. H.h_mul (a i 0) (det 𝓡 n (minor 𝓡 i a)) ∙ ap (λ x. 𝓢.mul (φ (a i 0)) x) (det_hom n (minor 𝓡 i a)))
