use borrow.Author.Rules.{rules}
use Rattle.divisor.proofs.Cases.{falling, products}
use Rattle.divisor64.proofs.Cases.{factors}
use Rattle.divisor64.proofs as own
use Rattle.divisor64.proofs.+run as cycle

pub +run_spec : {M : Type 1} → cycle.statement M
+run_spec =
    cycle.Tie.close
    (λ κs a. a.1.0)
    (λ t. cycle.Lts-run.spec (_, own.attempt_by.Reads.Learnt, _, own.run.Reads.Post, _, own.joined.Reads.Learnt)
    _ own.run.Reads.Post (λ c κs. search rules) (λ c. search rules) (λ c. search rules)
    (λ c κs. (search falling, search factors)) (λ c κs. (search falling, search factors))
    (λ c κs. search products) (λ c. search rules) (λ c. (search products, search rules)) (λ c. search rules)
    (λ c. (search products, search rules)))
