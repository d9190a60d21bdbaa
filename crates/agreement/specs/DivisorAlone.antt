-- D alone and D with its cofactors (S63): where both services answer, they answer the same number, at any width.
--
--   divisor_is_reduced    the two records, both with status 0
use Rattle.std.specs.Prelude.{◌≡◌, List, ℕ, ◌≤◌}
use Rattle.std.proofs.Common.{subst}
use Rattle.law_polynomials.specs.ReachedLaws.{reduced_unique}
use Rattle.refusals.specs.Refusals.{Width}
use Rattle.reduced_service.specs.ReducedService.{ReducedAnswer, ReducedLeft}
use Rattle.divisor_service.specs.DivisorService.{DivisorAnswer, DivisorLeft}

-- S11: "D runs from 1 to n and divides n": at most one number is D
pub divisor_is_reduced : (W : Width) (n : ℕ) (f g work work' u u' v v' room room' : List ℕ) (D E s t : ℕ) → 1 ≤ n
    → DivisorAnswer W n f g work work' D s → s ≡ 0 → ReducedAnswer W n f g u u' v v' room room' E t → t ≡ 0 → D ≡ E
divisor_is_reduced W n f g work work' u u' v v' room room' D E s t l a p b q =
    reduced_unique l (subst (λ (x : ℕ). DivisorLeft x n f g D) p a.result)
    (subst (λ (x : ℕ). ReducedLeft x n f g u u' v v' E) q b.result).reduced
