use borrow.Author.Rules.{rules}
use Rattle.resultant_euclid.proofs.Steps.{places, leading, telling}
use Rattle.resultant_euclid.proofs.pair_step.Statement.{statement}
use Rattle.resultant_euclid.proofs.pair_step.Tie as tie

pub pair_step_spec : {M : Type 1} → statement M
pair_step_spec =
    tie.close
    (tie.spec
    (λ c. search rules) (λ c. search rules) (λ c. search rules) (λ c. search rules) (λ c. search rules) (λ c. search rules)
    (λ c. search rules) (λ c κs. (search places, search places)) (λ c κs. (search places, search places)) (λ c. search rules)
    (λ c. search rules) (λ c. search rules) (λ c. search rules) (λ c. search rules) (λ c. search rules) (λ c. search rules)
    (λ c κs. (search places, (search places, (search places, (search places, search places)))))
    (λ c κs. (
      search places,
      (
        (search places, (search places, (search places, (search places, search places)))),
        (search places, (search places, search places)),
      ),
    ))
    (λ c κs. search rules)
    (λ c κs. search rules)
    (λ c. search rules)
    (λ c. search rules)
    (λ c. (search leading, search telling)))
