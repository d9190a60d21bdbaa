use borrow.Author.Rules.{rules}
use Rattle.resultant.proofs.Joining.{falling, factors, joining}
use Rattle.reduction64.proofs as reduction
use Rattle.residue64.proofs as residue
use Rattle.resultant64.proofs as own
use Rattle.resultant64.proofs.+run as cycle

pub +run_spec : {M : Type 1} → cycle.statement M
+run_spec =
    cycle.Tie.close
    (λ κs a. a.1.0)
    (λ t. cycle.Lts-run.spec (
      _,
      reduction.modulus_of.Reads.Learnt,
      _,
      own.once.Reads.Learnt,
      _,
      own.run.Reads.Post,
      _,
      residue.join.Reads.Learnt,
    )
    _ own.run.Reads.Post (λ c κs. search rules) (λ c κs. ((search rules, search rules), search rules)) (λ c. search rules)
    (λ c. search rules) (λ c κs. (search falling, (search factors, search rules)))
    (λ c κs. (search falling, (search factors, search rules)))
    (λ c κs. ((search rules, search factors), (search factors, (search factors, search factors)))) (λ c. search rules)
    (λ c. (search joining, search rules)) (λ c. search rules) (λ c. (search joining, search rules)))
