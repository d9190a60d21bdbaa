use Rattle.std.proofs.Common.{refl}
use Rattle.refusals.proofs.Statuses.{number_some}
use Rattle.bivariate_service.proofs.BivariateReturns.{refused_room, prepared, done}
use Rattle.bivariate_service.proofs.bivariate_resultant.Goals as goal

pub returns-in-Err-room_refusal : goal.returns-in-Err-room_refusal
returns-in-Err-room_refusal c =
    let e = c.from-in-Err-room_refusal.ensures in
    rw (e.0, e.1) (refused_room c.in_default.ensures refl c.in-Err-room_refusal.ensures c.degree_in_z-last.ensures (number_some _))

pub served-requires : goal.served-requires
served-requires c = prepared c.in_default.ensures refl c.in_default-room_refusal.ensures c.degree_in_z-last.ensures refl

pub returns : goal.returns
returns c =
    done c.in_default.ensures refl c.in_default-room_refusal.ensures c.degree_in_z-last.ensures refl c.served.ensures.written
    c.served.ensures.work_after
