use borrow.Author.Rules.{rules}
use Rattle.window_factor.proofs.SeriesRounds.{series}
use Rattle.window_factor.proofs.series_word.Statement.{statement}
use Rattle.window_factor.proofs.series_word.Tie as tie

pub series_word_spec : {M : Type 1} → statement M
series_word_spec = tie.close (tie.spec (λ c. search rules) (λ c. search rules) (λ c. search rules) (λ c. search rules) (λ c. search rules)
    (λ c. search rules) (λ c. search rules) (λ c. search rules) (λ c. search rules) (λ c. search rules) (λ c. search rules)
    (λ c. search rules) (λ c. search rules) (λ c. search rules) (λ c κs. search rules) (λ c. search rules) (λ c κs. search rules)
    (λ c. search series))
