use Rattle.std.proofs.Common.{◌+◌, ◌-◌, length, refl}
use Rattle.refusals.specs.Refusals.{narrow}
use Rattle.product_law_service.proofs.SevenCalls.{part_end, law_done}
use Rattle.product_law_service.proofs.law_of_products.Goals as goal

pub slice_bounds-how_far-end : goal.slice_bounds-how_far-end
slice_bounds-how_far-end c = let a = c.args in
    search (part_end narrow a.n a.f.now a.g.now a.h.now a.p.now a.u.now a.v.now a.work.now _ c.in_default.ensures refl)

-- applied by hand: its places are too far from the start for a search
pub returns : goal.returns
returns c = let a = c.args in
    law_done narrow a.n a.f.now a.g.now a.h.now a.p.now a.u.now a.v.now a.work.now _ c.in_default.ensures refl
    (length a.f.now - 1 + (length a.g.now - 1) + 1) _ _ _ c.product.ensures c.factor_numbers-a.ensures c.how_far-b.ensures refl refl
