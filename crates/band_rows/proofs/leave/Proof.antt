use borrow.Author.Rules.{rules}
use Rattle.band_rows.proofs.Ends.{leavings}
use Rattle.band_rows.proofs.leave.Statement.{statement}
use Rattle.band_rows.proofs.leave.Tie as tie

pub leave_spec : {M : Type 1} → statement M
leave_spec = tie.close (tie.spec (λ c. search rules) (λ c. search rules) (λ c. search rules) (λ c κs. search rules) (λ c κs. search rules)
    (λ c κs. search leavings) (λ c. search rules) (λ c. search leavings) (λ c. search rules) (λ c. search rules) (λ c κs. search rules)
    (λ c κs. search rules) (λ c κs. search rules) (λ c κs. search rules) (λ c κs. search leavings) (λ c. search rules)
    (λ c. search leavings))
