use borrow.Author.Rules.{rules}
use Rattle.band_rows.proofs.Ends.{comings}
use Rattle.band_rows.proofs.come_in.Statement.{statement}
use Rattle.band_rows.proofs.come_in.Tie as tie

pub come_in_spec : {M : Type 1} → statement M
come_in_spec = tie.close (tie.spec (λ c. search rules) (λ c. search rules) (λ c κs. search rules) (λ c. search rules) (λ c. search rules)
    (λ c. search rules) (λ c κs. search rules) (λ c. search rules) (λ c. search rules) (λ c. search rules) (λ c κs. search rules)
    (λ c. search rules) (λ c. search comings) (λ c. search rules) (λ c. search rules) (λ c. search comings) (λ c. search rules)
    (λ c. search rules) (λ c κs. search rules) (λ c. search rules) (λ c. search rules) (λ c. search comings) (λ c. search comings))
