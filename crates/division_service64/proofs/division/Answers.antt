use Rattle.std.proofs.Common.{refl, sym, ap, ◌∙◌}
use Rattle.refusals.specs.Refusal.{status_of}
use Rattle.refusals64.specs.Wide.{wide}
use Rattle.refusals.proofs.Statuses.{number_some}
use Rattle.division_service.proofs.DivisionReturns.{division_late, division_done}
use Rattle.division_service64.proofs.division.Goals as goal

pub returns-in-Err-refusal_quotient : goal.returns-in-Err-refusal_quotient
returns-in-Err-refusal_quotient c =
    let a = c.args in
    let e = c.from-in-Err-refusal_quotient.ensures in
    rw (e.0, e.1) (division_late wide a.n 0 a.f.now a.g.now a.q.now a.r.now
    (sym (ap status_of c.in_default.is) ∙ c.refusal_of_pair.ensures) refl _ _ _ _ c.cofactor-u.ensures c.excess-m.ensures
    (sym (ap status_of c.in-Err-refusal_quotient.is) ∙ c.refusal_quotient.ensures) (number_some _))

pub returns : goal.returns
returns c =
    let a = c.args in
    division_done wide a.n 0 a.f.now a.g.now a.q.now a.r.now (sym (ap status_of c.in_default.is) ∙ c.refusal_of_pair.ensures) refl _ _ _ 0
    c.cofactor-u.ensures c.excess-m.ensures (sym (ap status_of c.in_default-refusal_quotient.is) ∙ c.refusal_quotient.ensures) refl _ _
    c.divide.ensures
