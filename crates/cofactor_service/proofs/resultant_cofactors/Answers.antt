-- Two rules are applied by hand: parts of the buffers are long to hold against each other.
use Rattle.std.proofs.Common.{refl, sym, ap, ◌∙◌}
use Rattle.refusals.specs.Refusal.{status_of}
use Rattle.cofactor_service.proofs.CofactorReturns.{asked, done, told_by}
use Rattle.cofactor_service.proofs.resultant_cofactors.Goals as goal

pub cofactors-value-requires : goal.cofactors-value-requires
cofactors-value-requires c = asked _ _ _ _ _ _ _ (told_by (ap status_of c.in_default.is) c.refusal.ensures) refl refl refl

pub returns : goal.returns
returns c =
    done _ _ _ _ _ _ _ (told_by (ap status_of c.in_default.is) c.refusal.ensures) refl _ _ _ _
    c.cofactors-value.ensures.resultant_cofactors c.cofactors-value.auto.u c.cofactors-value.auto.v c.cofactors-value.ensures.scratch
    c.answered.ensures.work_after c.answered.ensures.value_value.0 c.answered.ensures.value_value.1 refl refl
