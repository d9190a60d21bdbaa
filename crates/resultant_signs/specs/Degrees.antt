-- Sent degrees from lengths, and the bound of a resultant.
use Rattle.std.specs.Prelude.{◌≡◌, List, ℕ, zero, suc, pred, ◌+◌, ◌≤◌, ◌<◌, length}
use Rattle.std.proofs.Common.{sym, ap, subst, ◌∙◌, arith}
use Rattle.definitions.specs.Polynomials.{deg}
use Rattle.definitions.specs.Resultants.{resultant}
use Rattle.law_algebra.specs.Residues.{Res_ring}
use Rattle.law_algebra.specs.SentLaws.{Rs}
use Rattle.law_polynomials.specs.Words.{resultant_is, words}

pub resultant_lt : (n : ℕ) → 1 ≤ n → (f g : List ℕ) → resultant n f g < n
resultant_lt zero l f g = absurd (omega arith)
resultant_lt (suc m) l f g = subst (λ (x : ℕ). x < suc m) (sym (resultant_is m f g)) (Rs (Res_ring m) (deg f) (deg g) (words m f)
    (words m g)).1

pub deg_of : (f : List ℕ) (d : ℕ) → length f ≡ d + 1 → deg f ≡ d
deg_of f d e = ap pred e ∙ less d
  where
    less : (d : ℕ) → pred (d + 1) ≡ d
    less d = omega arith
