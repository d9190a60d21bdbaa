-- Sequences put end to end and read backwards: the rows of two matrices one above the other.
--
--   up m p          m + p, by recursion on m
--   stack m a b     the first m of a, then all of b
--   back n a        a (n - 1), …, a 0, then a n, a (n + 1), …
--
-- Letters: m, n, p, q are numbers of rows; a, b sequences or matrices; r a place, c a column.
use Rattle.std.specs.Prelude.{◌≡◌, refl, ℕ, zero, suc, ◌<◌, ◌+◌ as ◌+ℕ◌}
use Rattle.std.proofs.Common.{sym, ◌∙◌, ap, suc-add, zero-add as nat_zero_add, arith}

-- m + p, by recursion on m
abbrev pub up : ℕ → ℕ → ℕ
up zero p = p
up (suc m) p = suc (up m p)

pub up_is : (m p : ℕ) → up m p ≡ m +ℕ p
up_is zero p = sym (nat_zero_add p)
up_is (suc m) p = ap suc (up_is m p) ∙ sym (suc-add m p)

pub up_suc : (m n : ℕ) → up m (suc n) ≡ suc (up m n)
up_suc zero n = refl
up_suc (suc m) n = ap suc (up_suc m n)

pub up_comm : (m n : ℕ) → up m n ≡ up n m
up_comm m n = let a = up_is m n in let b = up_is n m in omega arith

pub up_swap : (m n p : ℕ) → up m (up n p) ≡ up n (up m p)
up_swap m n p = omega (arith, up_is m (up n p), up_is n p, up_is n (up m p), up_is m p)

module _ {X : Type 0} where
  -- the first m of a, then all of b
  abbrev pub stack : ℕ → (ℕ → X) → (ℕ → X) → ℕ → X
  stack zero a b r = b r
  stack (suc m) a b zero = a zero
  stack (suc m) a b (suc r) = stack m (λ i. a (suc i)) b r

  pub stack_top : (m : ℕ) (a b : ℕ → X) (r : ℕ) → r < m → stack m a b r ≡ a r
  stack_top zero a b r l = absurd (omega arith)
  stack_top (suc m) a b zero l = refl
  stack_top (suc m) a b (suc r) l = stack_top m (λ i. a (suc i)) b r (omega arith)

  pub stack_stack : (m n : ℕ) (a b c : ℕ → X) (r : ℕ) → stack (up m n) (stack m a b) c r ≡ stack m a (stack n b c) r
  stack_stack zero n a b c r = refl
  stack_stack (suc m) n a b c zero = refl
  stack_stack (suc m) n a b c (suc r) = stack_stack m n (λ i. a (suc i)) b c r

  pub stack_bottom : (m : ℕ) (a b : ℕ → X) (r : ℕ) → stack m a b (up m r) ≡ b r
  stack_bottom zero a b r = refl
  stack_bottom (suc m) a b r = stack_bottom m (λ i. a (suc i)) b r

  pub stack_drop : (n m : ℕ) (a b : ℕ → X) (r : ℕ) → stack (up n m) a b (up n r) ≡ stack m (λ i. a (up n i)) b r
  stack_drop zero m a b r = refl
  stack_drop (suc n) m a b r = stack_drop n m (λ i. a (suc i)) b r

pub stack_map : {X Y : Type 0} (φ : X → Y) (m : ℕ) (a b : ℕ → X) (r : ℕ) → φ (stack m a b r) ≡ stack m (λ i. φ (a i)) (λ i. φ (b i)) r
stack_map φ zero a b r = refl
stack_map φ (suc m) a b zero = refl
stack_map φ (suc m) a b (suc r) = stack_map φ m (λ i. a (suc i)) b r

-- a stack of matrices is equal to another where their rows are, in one column
pub rows_cong : {R : Type 0} (c m q : ℕ) (a b a' b' : ℕ → ℕ → R) → ((i : ℕ) → i < m → a i c ≡ a' i c) → ((i : ℕ) → i < q → b i c ≡ b' i c)
    → (r : ℕ) → r < up m q → stack m a b r c ≡ stack m a' b' r c
rows_cong c zero q a b a' b' h g r l = g r l
rows_cong c (suc m) q a b a' b' h g zero l = h 0 (omega arith)
rows_cong c (suc m) q a b a' b' h g (suc r) l = rows_cong c m q (λ i. a (suc i)) b (λ i. a' (suc i)) b' (λ i p. h (suc i) (omega arith)) g r
    (omega arith)

-- what holds of the rows of both holds of a stack's
pub stack_all : {X : Type 0} (P : ℕ → X → Type 0) (m q : ℕ) (a b : ℕ → X) → ((i : ℕ) → i < m → P i (a i))
    → ((i : ℕ) → i < q → P (up m i) (b i))
    → (r : ℕ) → r < up m q → P r (stack m a b r)
stack_all P zero q a b h g r l = g r l
stack_all P (suc m) q a b h g zero l = h 0 (omega arith)
stack_all P (suc m) q a b h g (suc r) l = stack_all (λ i. P (suc i)) m q (λ i. a (suc i)) b (λ i p. h (suc i) (omega arith)) g r
    (omega arith)

-- a (n - 1), …, a 0, then a n, …
abbrev pub back : {X : Type 0} → ℕ → (ℕ → X) → ℕ → X
back zero a r = a r
back (suc n) a zero = a n
back (suc n) a (suc r) = back n a r

pub back_at : {X : Type 0} (n : ℕ) (a : ℕ → X) (i j : ℕ) → suc (i +ℕ j) ≡ n → back n a i ≡ a j
back_at zero a i j h = absurd (omega arith)
back_at (suc n) a zero j h = ap a (omega arith)
back_at (suc n) a (suc i) j h = back_at n a i j (omega arith)
