use borrow.Author.Rules.{rules}
use Rattle.window_factor.proofs.Rounds.{rounds}
use Rattle.window_factor64.proofs.divide_copy.Statement.{statement}
use Rattle.window_factor64.proofs.divide_copy.Tie as tie

pub divide_copy_spec : {M : Type 1} → statement M
divide_copy_spec = tie.close (tie.spec (λ c. search rules) (λ c. search rules) (λ c. search rules) (λ c κs. search rules)
    (λ c. search rules) (λ c. search rounds) (λ c κs. search rounds) (λ c. search rules) (λ c. search rounds))
