use borrow.Author.Rules.{rules}
use Rattle.modulus.proofs.Valuing.{answers}
use Rattle.modulus.proofs.difference_of.Statement.{statement}
use Rattle.modulus.proofs.difference_of.Tie as tie

pub difference_of_spec : {M : Type 1} → statement M
difference_of_spec = tie.close (tie.spec (λ c. search answers) (λ c κs. (search answers, search rules)) (λ c. search answers)
    (λ c. search answers) (λ c. search answers) (λ c κs. search answers) (λ c. search answers))
