-- Division by a monic polynomial has one quotient and one remainder, modulo any number. Polynomials are functions from places to
-- coefficients.
--
--   MonicAt n t h             h is monic of degree t
--   DividedBy n f h q r       f is q h + r
--   one_quotient, one_remainder
use mathlib.Core.Path.{◌≡◌, sym, ap, ◌∙◌}
use mathlib.Core.Logic.{⊎_elim}
use Prim.Native.Nat.{ℕ, zero, suc, ◌+◌, ◌-◌, ◌*◌, ◌≤◌, ◌<◌}
use native.Mathlib.Nat.{add_comm, add-zero, mul-zero, mul-one}
use native.Mathlib.Omega.{arith}
use Rattle.law_numbers.specs.Congruence.{Cong, c_refl, c_sym, c_trans, c_eq, c_add, c_mul, c_cancel}
use Rattle.definitions.specs.Polynomials.{convolve}
use Rattle.convolution.specs.Sums.{total_at, convolve_mod}
use Rattle.windows.proofs.Leaf.{lt_or_le}

pub record MonicAt (n t : ℕ) (h : ℕ → ℕ) : Type 0 where
  pub lead : Cong n (h t) 1
  pub over : (j : ℕ) → t < j → h j ≡ 0

pub record DividedBy (n : ℕ) (f h q r : ℕ → ℕ) : Type 0 where
  pub at : (k : ℕ) → Cong n (convolve q h k + r k) (f k)

module _ {n t d : ℕ} {f h q r q' r' : ℕ → ℕ} (pos : 0 < n) (o : MonicAt n t h) (a : DividedBy n f h q r) (b : DividedBy n f h q' r')
    (short : (k : ℕ) → t ≤ k → r k ≡ 0) (short' : (k : ℕ) → t ≤ k → r' k ≡ 0)
    (top : (j : ℕ) → d < j → q j ≡ 0) (top' : (j : ℕ) → d < j → q' j ≡ 0) where
  high : (k : ℕ) → t ≤ k → Cong n (convolve q h k) (convolve q' h k)
  high k l =
      c_trans (c_eq (sym (add-zero (convolve q h k)) ∙ ap (λ (x : ℕ). convolve q h k + x) (sym (short k l))))
      (c_trans (c_trans (a.at k) (c_sym (b.at k)))
      (c_eq (ap (λ (x : ℕ). convolve q' h k + x) (short' k l) ∙ add-zero (convolve q' h k))))

  -- the quotients agree at j where they agree above it
  down : (j : ℕ) → ((s : ℕ) → j < s → Cong n (q s) (q' s)) → Cong n (q j) (q' j)
  down j up =
      let e : t + j - j ≡ t = omega arith in
      let c : Cong n (q j * h (t + j - j)) (q' j * h (t + j - j)) =
      total_at n (suc (t + j)) j (λ (i : ℕ). q i * h (t + j - i)) (λ (i : ℕ). q' i * h (t + j - i)) pos (omega arith)
      (λ i l ne. ⊎_elim
      (λ s. c_eq (rw (o.over (t + j - i) (omega arith), mul-zero, mul-zero)))
      (λ s. c_mul (up i (omega arith)) c_refl)
      (lt_or_le i j))
      (high (t + j) (omega arith)) in
      c_trans (c_eq (sym (mul-one (q j))))
      (c_trans (c_mul c_refl (c_sym o.lead))
      (c_trans (rw e at c) (c_trans (c_mul c_refl o.lead) (c_eq (mul-one (q' j))))))

  from : (c j : ℕ) → d < j + c → Cong n (q j) (q' j)
  from zero j l = c_eq (top j (omega arith) ∙ sym (top' j (omega arith)))
  from (suc c) j l = down j (λ s k. from c s (omega arith))

  pub one_quotient : (j : ℕ) → Cong n (q j) (q' j)
  one_quotient j = from (suc d) j (omega arith)

  pub one_remainder : (k : ℕ) → Cong n (r k) (r' k)
  one_remainder k =
      c_cancel (convolve q h k) pos
      (c_trans (c_eq (add_comm (r k) (convolve q h k)))
      (c_trans (c_trans (a.at k) (c_sym (b.at k)))
      (c_trans (c_add (c_sym (convolve_mod {q = h} {q' = h} one_quotient (λ i. c_refl) k)) c_refl)
      (c_eq (add_comm (convolve q h k) (r' k))))))
