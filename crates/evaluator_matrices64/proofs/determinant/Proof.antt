use Rattle.evaluator_matrices.proofs.Columns.{determinants}
use Rattle.evaluator_matrices64.proofs.determinant.Statement.{statement}
use Rattle.evaluator_matrices64.proofs.determinant.Tie as tie

pub determinant_spec : {M : Type 1} → statement M
determinant_spec = tie.close (tie.spec (λ c κs. search determinants) (λ c κs. search determinants) (λ c κs. search determinants)
    (λ c. search determinants))
