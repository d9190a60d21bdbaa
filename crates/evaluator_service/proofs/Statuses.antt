-- What is known where no refusal of the evaluator applies, and its answer. For words of any width.
--
--   sizes_told, cells_told     what the determinant asks
--   evaluator_done             the answer
use Rattle.std.specs.Prelude.{◌≡◌, List, ℕ, ◌+◌, ◌-◌, ◌≤◌, length}
use Rattle.std.proofs.Common.{sym, subst, ◌∙◌, arith}
use Rattle.definitions.specs.Polynomials.{Residues}
use Rattle.evaluator_matrices.specs.Elimination.{cell, ResidueCells}
use Rattle.evaluator_matrices.specs.LeadingMinors.{leading_minor}
use Rattle.refusals.specs.Refusals.{Width}
use Rattle.refusals.specs.Conditions.{status_zero}
use Rattle.refusals.proofs.Degrees.{degrees_are}
use Rattle.evaluator_service.specs.Sylvester.{HoldsSylvester}
use Rattle.evaluator_service.specs.EvaluatorService.{evaluator_refusals, evaluator_status}
use Rattle.evaluator_service.specs.EvaluatorService.{evaluator_conditions, evaluator_listed, EvaluatorAnswer}
use Rattle.evaluator_service.proofs.Filling.{filled_residues, evaluated}

record Evaluable (n : ℕ) (f g : List ℕ) : Type 0 where
  pub modulus : 2 ≤ n
  pub first_some : 1 ≤ length f
  pub second_some : 1 ≤ length g
  pub small : length f - 1 + (length g - 1) ≤ 8
  pub first_residues : Residues n f
  pub second_residues : Residues n g

evaluable : (W : Width) (n : ℕ) (f g : List ℕ) → evaluator_status W n f g ≡ 0 → Evaluable n f g
evaluable W n f g h =
    let p = (status_zero (evaluator_refusals W n f g) (evaluator_conditions W n f g) (evaluator_listed W n f g)).0 h in
    record {
      modulus = p.0.least;
      first_some = p.1.0.some;
      second_some = p.1.1.0.some;
      small = subst (λ (k : ℕ). k ≤ 8) (sym (degrees_are f g)) p.1.1.1.0;
      first_residues = p.1.1.1.1.0;
      second_residues = p.1.1.1.1.1.0;
    }

module _ (W : Width) (n : ℕ) (f g : List ℕ) (z : 0 ≡ evaluator_status W n f g) where
  known : Evaluable n f g
  known = evaluable W n f g (sym z)

  pub sizes_told : (2 ≤ n) × (length f - 1 + (length g - 1) ≤ 8)
  sizes_told = (known.modulus, known.small)

  pub cells_told : (m : List (List ℕ)) → HoldsSylvester f g m → ResidueCells n m
  cells_told m h = filled_residues n f g m (omega (arith, known.modulus)) known.first_residues known.second_residues h

  pub evaluator_done : (v : ℕ) (m : List (List ℕ)) → v ≡ leading_minor n (length f - 1 + (length g - 1)) (cell m) → HoldsSylvester f g m
      → EvaluatorAnswer W n f g v 0
  evaluator_done v m e h = record { status_is = z; value_is = e ∙ evaluated n f g m known.small h }
