-- The plain evaluator and the resultant agree wherever both answer (S63): two programs that share no more than the arithmetic of residues
-- answer one number, since each promises the resultant of the definitions.
--
--   evaluator_agrees    where both answer, they answer the same
--   BothAnswers         what is promised of a call of both
use Rattle.std.specs.Prelude.{◌≡◌, List, ℕ}
use Rattle.std.proofs.Common.{sym, ap, ◌∙◌}
use Rattle.definitions.specs.Resultants.{resultant}
use Rattle.refusals.specs.Refusals.{Width, answered}
use Rattle.evaluator_service.specs.EvaluatorService.{EvaluatorAnswer}
use Rattle.resultant_service.specs.ResultantService.{ResultantAnswer}

-- S41: "The plain evaluator takes two sent polynomials and answers their Sylvester determinant modulo n": what the resultant is
pub evaluator_agrees : (W W' : Width) (n : ℕ) (f g work work' : List ℕ) (x s y t : ℕ) → EvaluatorAnswer W n f g x s
    → ResultantAnswer W' n f g work work' y t → s ≡ 0 → t ≡ 0 → x ≡ y
evaluator_agrees W W' n f g work work' x s y t a b p q =
    a.value_is ∙ ap (λ (k : ℕ). answered k (resultant n f g)) (p ∙ sym q) ∙ sym b.value_is

-- x and s are the value and the status of the evaluator, y and t those of the resultant
pub record BothAnswers (W : Width) (n : ℕ) (f g work work' : List ℕ) (x s y t : ℕ) : Type 0 where
  pub evaluator_is : EvaluatorAnswer W n f g x s
  pub resultant_is : ResultantAnswer W n f g work work' y t
  pub equal : s ≡ 0 → t ≡ 0 → x ≡ y
