use borrow.Author.Rules.{rules}
use Rattle.reduction.proofs.Reciprocals.{below}
use Rattle.law_words64.specs.Reciprocals.{sum_is}
use Rattle.arithmetic64.proofs.add_mod.Statement.{statement}
use Rattle.arithmetic64.proofs.add_mod.Tie as tie

pub add_mod_spec : {M : Type 1} → statement M
add_mod_spec = tie.close (tie.spec (λ c κs. search rules) (λ c κs. search rules) (λ c κs. search (rules, below))
    (λ c. search (rules, sum_is)))
