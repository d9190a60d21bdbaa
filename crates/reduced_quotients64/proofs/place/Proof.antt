use borrow.Author.Rules.{rules}
use Rattle.reduced_quotients.proofs.Placing.{placed}
use Rattle.reduced_quotients64.proofs.place.Statement.{statement}
use Rattle.reduced_quotients64.proofs.place.Tie as tie

pub place_spec : {M : Type 1} → statement M
place_spec = tie.close (tie.spec (λ c κs. search rules) (λ c κs. search rules) (λ c. search rules) (λ c. search placed))
