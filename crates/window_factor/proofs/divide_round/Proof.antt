use borrow.Author.Rules.{rules}
use Rattle.window_factor.proofs.Rounds.{rounds}
use Rattle.window_factor.proofs.divide_round.Statement.{statement}
use Rattle.window_factor.proofs.divide_round.Tie as tie

pub divide_round_spec : {M : Type 1} → statement M
divide_round_spec = tie.close (tie.spec (λ c. search rules) (λ c. search rules) (λ c. search rules) (λ c κs. search rules)
    (λ c. search rules) (λ c. search rules) (λ c. search rules) (λ c. search rules) (λ c. search rules) (λ c κs. search rules)
    (λ c. search rules) (λ c. search rounds))
