use Rattle.std.proofs.Common.{refl, sym, ap, ◌∙◌}
use Rattle.refusals.specs.Refusal.{status_of}
use Rattle.cofactor_service.proofs.CofactorReturns.{later_told}
use Rattle.cofactor_service.proofs.refusal.Goals as goal

pub returns : goal.returns
returns c =
    let a = c.args in
    later_told a.n a.f.now a.g.now a.first a.second a.working 0
    (sym (ap status_of c.in_ok-refusal_of_pair.was) ∙ c.refusal_of_pair.ensures) refl c.room_refusal.ensures
