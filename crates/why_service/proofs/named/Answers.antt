use Rattle.std.proofs.Common.{refl}
use Rattle.why_service.proofs.Grounds.{common_divisor}
use Rattle.why_service.proofs.named.Goals as goal

pub returns-in-Common-clause-ground_holds : goal.returns-in-Common-clause-ground_holds
returns-in-Common-clause-ground_holds c =
    common_divisor c.args.d c.args.f.now c.args.g.now c.search.new.w _ c.in-Common.h refl c.in-Common.ensures.ground_in c.monic.ensures refl refl
