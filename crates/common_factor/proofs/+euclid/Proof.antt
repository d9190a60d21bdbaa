use borrow.Author.Rules.{rules}
use Rattle.common_factor.proofs.EuclidRounds.{rounds, next_found}
use Rattle.common_factor.proofs as own
use Rattle.common_factor.proofs.+euclid as cycle

pub +euclid_spec : {M : Type 1} → cycle.statement M
+euclid_spec =
    cycle.Tie.close
    (λ κs a. a.1.1.1.1.1.0)
    (λ t. cycle.Lts-euclid.spec (_, own.strip.Reads.Learnt, _, own.step.Reads.Learnt, _, own.euclid.Reads.Post)
    _ own.euclid.Reads.Post (λ c κs. search rules) (λ c. search rules) (λ c. search rounds) (λ c. search rules) (λ c κs. search rounds)
    (λ c. search rules) (λ c. search rules) (λ c κs. (search rounds, search rounds)) (λ c. search rules)
    -- the precondition is too far for a search
    (λ c. (
      let q = c.requires.1.1 in
          search next_found,
      search rules,
    )))
