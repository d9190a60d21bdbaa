-- The resultant of polynomials in y whose coefficients are polynomials in z, over any commutative ring: its value at a point is the
-- resultant of the values, and its degree in z is at most e a + d b.
--
--   Rs_value          the theorem
--
-- Letters: F, G are polynomials in y of degrees d, e, with coefficients of degrees at most a, b in z; x, y are their values at z.
use Rattle.std.specs.Prelude.{◌≡◌, ℕ, zero, suc, ◌+◌ as ◌+ℕ◌, ◌*◌ as ◌*ℕ◌}
use Rattle.std.proofs.Math.Path.{subst}
use Rattle.std.proofs.Common.{arith}
use Rattle.law_algebra.specs.Resultant.{shift, res}
use Rattle.law_algebra.specs.Reverse.{rv}
use Rattle.law_algebra.specs.Ring.{CRing}
use Rattle.law_algebra.specs.SentLaws.{Rs}
use Rattle.law_algebra.specs.Series.{series}
use Rattle.law_algebra.specs.Stack.{stack, up}
use Rattle.law_algebra.specs.Evaluation.{Value, value_zero, det_value, rows}

-- the bounds of the rows, summed
rows_stack : (e d a b : ℕ) → rows (up e d) (stack e (λ i. a) (λ i. b)) ≡ e *ℕ a +ℕ d *ℕ b
rows_stack zero zero a b = omega arith
rows_stack zero (suc d) a b = let h = rows_stack zero d a b in omega arith
rows_stack (suc e) d a b = let h = rows_stack e d a b in omega arith

module _ {R : Type 0} (𝓡 : CRing R) (z : R) where
  rv_value : (a d : ℕ) (F : ℕ → ℕ → R) (x : ℕ → R) → ((i : ℕ) → Value 𝓡 a z (F i) (x i)) → (i : ℕ)
      → Value 𝓡 a z (rv (series 𝓡) d F i) (rv 𝓡 d x i)
  rv_value a zero F x h zero = h 0
  rv_value a zero F x h (suc i) = value_zero 𝓡 a z
  rv_value a (suc d) F x h zero = h (suc d)
  rv_value a (suc d) F x h (suc i) = rv_value a d F x h i

  shift_value : (a s : ℕ) (F : ℕ → ℕ → R) (x : ℕ → R) → ((i : ℕ) → Value 𝓡 a z (F i) (x i)) → (i : ℕ)
      → Value 𝓡 a z (shift (series 𝓡) s F i) (shift 𝓡 s x i)
  shift_value a zero F x h i = h i
  shift_value a (suc s) F x h zero = value_zero 𝓡 a z
  shift_value a (suc s) F x h (suc i) = shift_value a s F x h i

  stack_value : (a b e : ℕ) (A B : ℕ → ℕ → ℕ → R) (x y : ℕ → ℕ → R) → ((r c : ℕ) → Value 𝓡 a z (A r c) (x r c))
      → ((r c : ℕ) → Value 𝓡 b z (B r c) (y r c)) → (r c : ℕ)
      → Value 𝓡 (stack e (λ i. a) (λ i. b) r) z (stack e A B r c) (stack e x y r c)
  stack_value a b zero A B x y h k r c = k r c
  stack_value a b (suc e) A B x y h k zero c = h 0 c
  stack_value a b (suc e) A B x y h k (suc r) c = stack_value a b e (λ i. A (suc i)) B (λ i. x (suc i)) y (λ i. h (suc i)) k r c

  -- THE VALUE OF THE RESULTANT IS THE RESULTANT OF THE VALUES; its degree is at most e a + d b
  pub Rs_value : (d e a b : ℕ) (F G : ℕ → ℕ → R) (x y : ℕ → R) → ((i : ℕ) → Value 𝓡 a z (F i) (x i))
      → ((i : ℕ) → Value 𝓡 b z (G i) (y i)) → Value 𝓡 (e *ℕ a +ℕ d *ℕ b) z (Rs (series 𝓡) d e F G) (Rs 𝓡 d e x y)
  unfolding res
  Rs_value d e a b F G x y h k =
      subst (λ (n : ℕ). Value 𝓡 n z (Rs (series 𝓡) d e F G) (Rs 𝓡 d e x y)) (rows_stack e d a b)
      (det_value 𝓡 (up e d) (stack e (λ i. a) (λ i. b)) z
      (stack e (λ i. shift (series 𝓡) i (rv (series 𝓡) d F)) (λ i. shift (series 𝓡) i (rv (series 𝓡) e G)))
      (stack e (λ i. shift 𝓡 i (rv 𝓡 d x)) (λ i. shift 𝓡 i (rv 𝓡 e y)))
      (λ r c p q. stack_value a b e (λ i. shift (series 𝓡) i (rv (series 𝓡) d F)) (λ i. shift (series 𝓡) i (rv (series 𝓡) e G))
      (λ i. shift 𝓡 i (rv 𝓡 d x)) (λ i. shift 𝓡 i (rv 𝓡 e y))
      (λ i. shift_value a i (rv (series 𝓡) d F) (rv 𝓡 d x) (rv_value a d F x h))
      (λ i. shift_value b i (rv (series 𝓡) e G) (rv 𝓡 e y) (rv_value b e G y k)) r c))
