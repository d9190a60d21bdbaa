use Rattle.frame_runs.proofs.Entering.{value_found}
use Rattle.frame_runs.proofs.Lending.{few_back, job_back, all_back}
use borrow.Author.Rules.{rules}
use Rattle.frame_runs.proofs.euclid_first.Statement.{statement}
use Rattle.frame_runs.proofs.euclid_first.Tie as tie

pub euclid_first_spec : {M : Type 1} → statement M
euclid_first_spec = tie.close (tie.spec (λ c. search rules) (λ c. search rules) (λ c. search rules) (λ c. search rules)
    (λ c κs. search rules) (λ c. search rules) (λ c. search rules) (λ c κs. search (rules, job_back)) (λ c. search rules)
    (λ c. search (rules, value_found, few_back)) (λ c. search rules) (λ c. search (rules, all_back)))
