use Rattle.std.proofs.Common.{◌+◌, ◌-◌, length, refl, arith}
use Rattle.refusals.specs.Refusals.{narrow}
use Rattle.product_law_service.proofs.SevenCalls.{first_some, third_some, cofactor_fits, law_passes}
use Rattle.product_law_service.proofs.refusal.Goals as goal

pub cofactor_length-l-requires : goal.cofactor_length-l-requires
cofactor_length-l-requires c = let a = c.args in let e = c.in_ok-sent_refusal.ensures in (
  omega arith,
  (
    third_some narrow.bound a.n 0 a.f.now a.g.now a.h.now e refl refl,
    cofactor_fits narrow.bound a.n 0 a.f.now a.g.now a.h.now e refl _ _ tt refl refl,
  ),
)

-- applied by hand: a search would compare the lists of refusals test by test
pub returns : goal.returns
returns c = let a = c.args in
    law_passes narrow a.n a.f.now a.g.now a.h.now a.room.product a.room.first a.room.second a.room.work _ c.in_ok-sent_refusal.ensures
    (length a.f.now - 1 + (length a.g.now - 1) + 1) _ refl c.cofactor_length-l.ensures c.room_refusal.ensures refl
