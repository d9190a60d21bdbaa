use Rattle.reduction64.proofs.Rules.{quotients}
use Rattle.reduction64.proofs.digit.Statement.{statement}
use Rattle.reduction64.proofs.digit.Tie as tie

pub digit_spec : {M : Type 1} → statement M
digit_spec = tie.close (tie.spec (λ c. search quotients) (λ c. search quotients) (λ c. search quotients) (λ c. search quotients)
    (λ c. search quotients) (λ c. search quotients) (λ c κs. search quotients) (λ c κs. search quotients) (λ c. search quotients))
