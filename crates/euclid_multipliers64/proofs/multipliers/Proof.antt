use Rattle.euclid_steps.specs.Plain.{plain_sound}
use Rattle.euclid_multipliers.proofs.Rounds.{rises}
use Rattle.euclid_multipliers.proofs.Finishing.{multiplied, scratched}
use mathlib.Core.Path.{refl}
use borrow.Author.Rules.{rules}
use Rattle.euclid_multipliers64.proofs.multipliers.Statement.{statement}
use Rattle.euclid_multipliers64.proofs.multipliers.Tie as tie

-- too many places for a search: the rules are applied to what the four calls promise
ascend_requires : tie.Need-ascend-r-requires
ascend_requires c κs =
    let s = c.requires in (s.0, rises (plain_sound s.0.0.pos) c.descend-y.ensures c.bottom-z.ensures refl)

returns : tie.Need-returns
returns c =
    let s = c.requires in
    let k = plain_sound s.0.0.pos in (
      multiplied k s.0.1 s.1 c.start-x.ensures c.descend-y.ensures c.bottom-z.ensures c.ascend-r.ensures refl,
      scratched k s.0.1 s.1 c.start-x.ensures c.descend-y.ensures c.bottom-z.ensures c.ascend-r.ensures,
    )

pub multipliers_spec : {M : Type 1} → statement M
multipliers_spec = tie.close (tie.spec (λ c κs. search rules) (λ c κs. search rules) (λ c. search rules) (λ c. search rules)
    (λ c κs. search rules) ascend_requires (λ c. search rules) returns)
