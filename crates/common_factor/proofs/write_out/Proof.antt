use borrow.Author.Rules.{rules}
use Rattle.common_factor.proofs.Scaled.{scalings}
use Rattle.common_factor.proofs.write_out.Statement.{statement}
use Rattle.common_factor.proofs.write_out.Tie as tie

pub write_out_spec : {M : Type 1} → statement M
write_out_spec = tie.close (tie.spec (λ c κs. search rules) (λ c. search rules) (λ c. search rules) (λ c. search rules) (λ c. search rules)
    (λ c. search rules) (λ c. search rules) (λ c κs. search rules) (λ c. search rules) (λ c. search scalings))
