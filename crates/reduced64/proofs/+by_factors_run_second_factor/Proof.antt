use borrow.Author.Rules.{rules}
use Prim.Native.Nat.{◌+◌, ◌*◌}
use Rattle.reduced.proofs.Cases.{runs_of}
use Rattle.reduced_quick64.proofs as quick
use Rattle.reduction64.proofs as moduli
use Rattle.reduced64.proofs as own
use Rattle.reduced64.proofs.+by_factors_run_second_factor as cycle

pub +by_factors_run_second_factor_spec : {M : Type 1} → cycle.statement M
+by_factors_run_second_factor_spec =
    cycle.Tie.close
    (λ κs a. 3 * (a.1.1.1.0 * a.1.1.1.1.0) + 1) (λ κs a. 3 * a.1.1.1.0 + 2)
    (λ κs a. 3 * (a.1.1.1.0 * a.1.1.1.1.0) + 0)
    (λ t. cycle.Lts-by_factors.spec (_, own.run.Reads.Post, _, own.save.Reads.Learnt, _, own.second_factor.Reads.Post)
    _ own.by_factors.Reads.Post (λ c κs. search runs_of) (λ c κs. search runs_of) (λ c κs. search runs_of) (λ c. search rules)
    (λ c. search rules) (λ c. search rules) (λ c. (search runs_of, search runs_of)))
    (λ t. cycle.Lts-run.spec (_, moduli.modulus_of.Reads.Learnt, _, quick.attempt.Reads.Learnt, _, own.by_factors.Reads.Post)
    _ own.run.Reads.Post (λ c κs. search runs_of) (λ c κs. (search runs_of, search runs_of)) (λ c. search rules) (λ c. search rules)
    (λ c κs. search runs_of) (λ c. search rules)
    (λ c. search rules) (λ c. search rules) (λ c. search runs_of) (λ c. search rules) (λ c. search rules) (λ c. search rules)
    (λ c. (search runs_of, search runs_of)))
    (λ t. cycle.Lts-second_factor.spec (_, own.run.Reads.Post, _, own.merge.Reads.Learnt)
    _ own.second_factor.Reads.Post (λ c. search rules) (λ c. search rules) (λ c. search rules) (λ c. search rules) (λ c. search rules)
    (λ c κs. search runs_of) (λ c κs. search runs_of) (λ c. search runs_of) (λ c. search rules) (λ c. search rules) (λ c. search rules)
    (λ c. search runs_of))
