use borrow.Author.Rules.{rules}
use Rattle.reduced_attempt.proofs.Cases.{attempts}
use Rattle.reduced_attempt.proofs.load_pair.Statement.{statement}
use Rattle.reduced_attempt.proofs.load_pair.Tie as tie

pub load_pair_spec : {M : Type 1} → statement M
load_pair_spec = tie.close (tie.spec (λ c κs. search rules) (λ c κs. search rules) (λ c κs. search rules) (λ c. search rules)
    (λ c. search attempts))
