use borrow.Author.Rules.{rules}
use Rattle.reduced_clearing.proofs.UnitSteps.{contents}
use Rattle.reduced_clearing64.proofs.clear_contents.Statement.{statement}
use Rattle.reduced_clearing64.proofs.clear_contents.Tie as tie

pub clear_contents_spec : {M : Type 1} → statement M
clear_contents_spec = tie.close (tie.spec (λ c. search rules) (λ c. search rules) (λ c. search rules) (λ c. search rules)
    (λ c. search rules) (λ c κs. search rules) (λ c. search rules) (λ c κs. search rules) (λ c. search rules)
    (λ c. (search contents, search contents)) (λ c κs. search contents) (λ c κs. search contents) (λ c κs. search contents)
    (λ c. search rules) (λ c. (search contents, search contents)))
