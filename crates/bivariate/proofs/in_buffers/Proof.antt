use borrow.Author.Rules.{rules}
use Rattle.bivariate.proofs.Evaluating.{run_value}
use Rattle.bivariate.proofs.in_buffers.Statement.{statement}
use Rattle.bivariate.proofs.in_buffers.Tie as tie

pub in_buffers_spec : {M : Type 1} → statement M
in_buffers_spec = tie.close (tie.spec (λ c κs. search rules) (λ c κs. search rules) (λ c κs. search rules) (λ c. search rules)
    (λ c. search rules) (λ c. search rules) (λ c. (search (rules, run_value), search rules)))
