use borrow.Author.Rules.{rules}
use Rattle.resultant_euclid.proofs.Steps.{places, leading, telling}
use Rattle.resultant_euclid.proofs.Steps.{elimination_first_room, elimination_second_room, elimination_first, elimination_second}
use mathlib.Core.Path.{refl}
use Rattle.resultant_euclid64.proofs.elimination_step.Statement.{statement}
use Rattle.resultant_euclid64.proofs.elimination_step.Tie as tie

pub elimination_step_spec : {M : Type 1} → statement M
elimination_step_spec =
    tie.close
    (tie.spec
    (λ c. search rules) (λ c. search rules) (λ c. search rules) (λ c. search rules) (λ c. search rules) (λ c. search rules)
    (λ c. search rules) (λ c κs. (search places, ((search places, (search places, search places)), search places))) (λ c. search rules)
    -- the words between the two loops: too many places for a search, so the rules are applied to the two facts
    (λ c κs. let s = c.scale.ensures in let p = c.requires.1.0.placed in (
      search places,
      (
        (search places, (search places, (elimination_first_room s p refl, elimination_second_room s p refl))),
        (search places, (elimination_first s p refl, elimination_second s p refl)),
      ),
    ))
    (λ c κs. search rules)
    (λ c. search rules)
    (λ c. search rules)
    (λ c. (search leading, search telling)))
