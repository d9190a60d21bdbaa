use borrow.Author.Rules.{rules}
use Rattle.reduced_attempt.proofs.Cases.{later_at}
use Rattle.reduced_attempt64.proofs.Cases.{attempts}
use Rattle.reduced_attempt64.proofs.both_halves.Statement.{statement}
use Rattle.reduced_attempt64.proofs.both_halves.Tie as tie

pub both_halves_spec : {M : Type 1} → statement M
both_halves_spec =
    tie.close
    (tie.spec
    (λ c κs. search attempts) (λ c. search rules) (λ c. search rules) (λ c κs. (search attempts, (search attempts, search attempts)))
    (λ c. search rules)
    -- the first half's answer by hand: held against all places, it takes a search too many steps
    (λ c κs. (
      search rules,
      let z = c.half.ensures in later_at _ _ _ _ _ _ _ _ _ _ _ c.in-Nilpotent.is z.0 (search rules) z.1,
    ))
    (λ c. search rules) (λ c. search rules) (λ c. search rules)
    (λ c. (search attempts, search attempts)) (λ c. search rules) (λ c. search rules) (λ c. search rules)
    (λ c. (search attempts, search attempts)) (λ c. search rules) (λ c. search rules) (λ c. search rules)
    (λ c. (search attempts, search attempts)))
