-- The conditions of a job.
--
--   job_conditions n f g, job_listed            each refusal of a job under its condition and no other
use Rattle.std.specs.Prelude.{◌≡◌, List, [], ◌∷◌, ◌++◌, ℕ}
use Rattle.std.proofs.Common.{sym, ◌∙◌, true≢false, arith, eqb-true, eq-eqb}
use Rattle.definitions.specs.Polynomials.{coef, deg}
use Rattle.refusals.specs.Refusals.{narrow}
use Rattle.refusals.specs.Conditions.{Fails, Listed, conditions_of_pair, modulus_fails, length_fails, words_fail}
use Rattle.frame_refusals.specs.FrameRefusals.{zero_top_of, job_refusals}

pub top_fails : (f : List ℕ) → Fails (zero_top_of f) (coef f (deg f) ≡ 0 → ⊥)
top_fails f = record {
  passed = λ e h. true≢false (sym (eq-eqb (coef f (deg f)) 0 h) ∙ e);
  failed = λ e h. h (eqb-true (coef f (deg f)) 0 e);
}

-- the conditions of an answer: so `status_zero` and `status_is` (refusals/Conditions) say when the status is 0, and when it is k
abbrev pub job_conditions : ℕ → List ℕ → List ℕ → List (Type 0)
job_conditions n f g = conditions_of_pair narrow n f g ++ ((coef f (deg f) ≡ 0 → ⊥) ∷ (coef g (deg g) ≡ 0 → ⊥) ∷ [])
