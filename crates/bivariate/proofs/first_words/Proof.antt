use borrow.Author.Rules.{rules}
use Rattle.bivariate.proofs.Evaluating.{run_is}
use Rattle.bivariate.proofs.first_words.Statement.{statement}
use Rattle.bivariate.proofs.first_words.Tie as tie

pub first_words_spec : {M : Type 1} → statement M
first_words_spec = tie.close (tie.spec (λ c. search rules) (λ c. search rules) (λ c. search rules) (λ c. search rules) (λ c. search rules)
    (λ c. search rules) (λ c. search rules) (λ c. search rules) (λ c κs. search rules) (λ c. search rules) (λ c. search (rules, run_is)))
