-- Laplace's expansion and Sylvester's matrix over whatever can be added and multiplied. Integers give the resultant (S8),
-- polynomials in z with integer coefficients that of two variables (S20).
--
--   Operations A          0, 1, sums, products and opposites of A
--   integers, polynomials     of integers; of polynomials in z, as sequences of their coefficients, the constant first
--   expansion n a         Laplace's expansion along the first column
--   rows_of d e f g       Sylvester's matrix of f and g, of degrees d and e
use Rattle.std.specs.Prelude.{ℕ, zero, suc, ◌+◌, ◌-◌, cond, leb, ltb, ℤ, pos, neg_ℤ, ◌+ℤ◌, ◌*ℤ◌}

pub record Operations (A : Type 0) : Type 0 where
  pub nought : A
  pub one : A
  pub plus : A → A → A
  pub times : A → A → A
  pub opposite : A → A

abbrev pub integers : Operations ℤ
integers = record { nought = pos 0; one = pos 1; plus = ◌+ℤ◌; times = ◌*ℤ◌; opposite = neg_ℤ }

-- F 0 + … + F (n - 1)
abbrev pub summed : ℕ → (ℕ → ℤ) → ℤ
summed zero F = pos 0
summed (suc n) F = F zero +ℤ summed n (λ i. F (suc i))

-- the constant c
abbrev pub single : ℤ → ℕ → ℤ
single c zero = c
single c (suc k) = pos 0

-- coefficient k of a sum, of a product, of the opposite
abbrev pub polynomials : Operations (ℕ → ℤ)
polynomials = record {
  nought = λ k. pos 0;
  one = single (pos 1);
  plus = λ p q k. p k +ℤ q k;
  times = λ p q k. summed (suc k) (λ i. p i *ℤ q (k - i));
  opposite = λ p k. neg_ℤ (p k);
}

-- the place of row r once row i is left out
abbrev pub beside : ℕ → ℕ → ℕ
beside zero r = suc r
beside (suc i) zero = zero
beside (suc i) (suc r) = suc (beside i r)

module _ {A : Type 0} (O : Operations A) where
  -- F 0 - F 1 + F 2 - …, n terms
  abbrev pub alternating : ℕ → (ℕ → A) → A
  alternating zero F = O.nought
  alternating (suc n) F = O.plus (F zero) (O.opposite (alternating n (λ i. F (suc i))))

  -- n rows and columns. S8: "With d = e = 0 the determinant is 1."
  unfoldable pub expansion : ℕ → (ℕ → ℕ → A) → A
  expansion zero a = O.one
  expansion (suc n) a = alternating (suc n) (λ i. O.times (a i 0) (expansion n (λ r c. a (beside i r) (suc c))))

  -- row i of f in degree d, highest coefficient first, i columns to the right: at column j
  abbrev pub entry_of : ℕ → (ℕ → A) → ℕ → ℕ → A
  entry_of d f i j = cond (leb i j) (cond (leb j (i + d)) (f (i + d - j)) O.nought) O.nought

  -- S7: "first e rows hold f, highest coefficient first, each row one column further right; then d rows hold g likewise"
  abbrev pub rows_of : ℕ → ℕ → (ℕ → A) → (ℕ → A) → ℕ → ℕ → A
  rows_of d e f g i j = cond (ltb i e) (entry_of d f i j) (entry_of e g (i - e) j)
