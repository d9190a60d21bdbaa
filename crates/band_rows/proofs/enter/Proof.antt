use borrow.Author.Rules.{rules}
use Rattle.band_rows.proofs.Rows.{entries}
use Rattle.band_rows.proofs.enter.Statement.{statement}
use Rattle.band_rows.proofs.enter.Tie as tie

pub enter_spec : {M : Type 1} → statement M
enter_spec = tie.close (tie.spec (λ c. search rules) (λ c κs. search rules) (λ c κs. search rules) (λ c. search rules) (λ c. search rules)
    (λ c. search rules) (λ c. search rules) (λ c. search entries) (λ c. search entries))
