use borrow.Author.Rules.{rules}
use Rattle.modulus_windows.proofs.Forms.{forms}
use Rattle.multiplier_steps.proofs.combine_back.Statement.{statement}
use Rattle.multiplier_steps.proofs.combine_back.Tie as tie

pub combine_back_spec : {M : Type 1} → statement M
combine_back_spec = tie.close (tie.spec (λ c. search rules) (λ c. search rules) (λ c κs. (search forms, (search rules, search rules)))
    (λ c. search rules) (λ c. search forms) (λ c. search rules) (λ c. search rules) (λ c. search rules) (λ c κs. search forms)
    (λ c. search rules) (λ c. search forms))
