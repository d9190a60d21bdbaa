use Rattle.std.proofs.Common.{refl, sym, ap, ◌∙◌}
use Rattle.refusals.specs.Refusal.{status_of}
use Rattle.refusals.specs.Refusals.{narrow}
use Rattle.refusals.proofs.Statuses.{number_some}
use Rattle.reduced_service.proofs.ReducedReturns.{first_some, second_some, cofactor_fits, late}
use Rattle.reduced_service.proofs.reduced_resultant.Goals as goal

pub cofactor_length-l-requires : goal.cofactor_length-l-requires
cofactor_length-l-requires c =
    let a = c.args in
    let z = sym (ap status_of c.in_default.is) ∙ c.refusal_of_pair.ensures in (
      first_some 4294967296 a.n 0 a.f.now a.g.now z refl refl,
      (
        second_some 4294967296 a.n 0 a.f.now a.g.now z refl refl,
        cofactor_fits 4294967296 a.n 0 a.f.now a.g.now z refl _ _ tt refl refl,
      ),
    )

pub returns-in-Err-room_refusal : goal.returns-in-Err-room_refusal
returns-in-Err-room_refusal c =
    let a = c.args in
    let e = c.from-in-Err-room_refusal.ensures in
    rw (e.0, e.1) (late narrow a.n a.f.now a.g.now a.u.now a.v.now a.work.now 0
    (sym (ap status_of c.in_default.is) ∙ c.refusal_of_pair.ensures) refl c.cofactor_length-l.result c.cofactor_length-l.ensures _
    (sym (ap status_of c.in-Err-room_refusal.is) ∙ c.room_refusal.ensures) (number_some _))
