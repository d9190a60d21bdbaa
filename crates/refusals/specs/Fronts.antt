-- A result in the first words of a lent buffer, as `replaced` has it (S25), known by its words.
--
--   front_is     w' is x, and after it the words that w has there
use Rattle.std.specs.Prelude.{◌≡◌, List, ◌++◌, ℕ, ◌+◌, ◌-◌, ◌≤◌, ◌<◌, length, drop}
use Rattle.std.proofs.Common.{sym, ap, subst, ◌∙◌, arith, ext_get_or, length-take-le, get_or-append-add, get_or-drop}
use Rattle.std.proofs.Math.Decide.{dec_lt}
use Rattle.std.proofs.Math.ListN.{get_or-append}
use Rattle.std.proofs.Math.Seq.{length_front}
use Rattle.definitions.specs.Polynomials.{coef}

pub front_is : (k : ℕ) (x w w' : List ℕ) → length x ≡ k → k ≤ length w → length w' ≡ length w
    → ((i : ℕ) → i < k → coef w' i ≡ coef x i) → ((i : ℕ) → k ≤ i → coef w' i ≡ coef w i) → w' ≡ x ++ drop k w
front_is k x w w' e r l low high =
    ext_get_or 0 w' (x ++ drop k w) (l ∙ sym (length_front w x k (e ∙ sym (length-take-le k w r)))) (λ i _. go i (dec_lt i k))
  where
    behind : (i : ℕ) → k ≤ i → coef (x ++ drop k w) i ≡ coef w i
    behind i h =
        let z : length x + (i - k) ≡ i = omega arith in
        let y : k + (i - k) ≡ i = omega arith in
        ap (coef (x ++ drop k w)) (sym z) ∙ get_or-append-add x (drop k w) (i - k) 0 ∙ get_or-drop k w (i - k) 0 ∙ ap (coef w) y

    go : (i : ℕ) → Dec (i < k) → coef w' i ≡ coef (x ++ drop k w) i
    go i (yes h) = low i h ∙ sym (get_or-append x (drop k w) 0 i (subst (λ (m : ℕ). i < m) (sym e) h))
    go i (no h) = high i (omega arith) ∙ sym (behind i (omega arith))
