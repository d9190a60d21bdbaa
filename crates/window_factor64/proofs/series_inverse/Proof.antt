use borrow.Author.Rules.{rules}
use Rattle.window_factor.proofs.SeriesRounds.{modulus_of}
use Rattle.window_factor64.proofs.series_inverse.Statement.{statement}
use Rattle.window_factor64.proofs.series_inverse.Tie as tie

pub series_inverse_spec : {M : Type 1} → statement M
series_inverse_spec = tie.close (tie.spec (λ c κs. search modulus_of)
    (λ c κs. ((search rules, (search rules, (search rules, search rules))), search modulus_of)) (λ c. search modulus_of)
    (λ c. search modulus_of))
