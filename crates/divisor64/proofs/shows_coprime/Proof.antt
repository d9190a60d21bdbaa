use borrow.Author.Rules.{rules}
use Rattle.divisor64.proofs.ShownByResultant.{ways}
use Rattle.divisor64.proofs.shows_coprime.Statement.{statement}
use Rattle.divisor64.proofs.shows_coprime.Tie as tie

pub shows_coprime_spec : {M : Type 1} → statement M
shows_coprime_spec = tie.close (tie.spec (λ c. search rules) (λ c. search rules) (λ c κs. search rules) (λ c κs. search rules)
    (λ c. search rules) (λ c. (search ways, search rules)))
