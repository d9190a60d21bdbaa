use Rattle.std.proofs.Common.{refl, rules}
use Rattle.refusals.specs.Refusals.{narrow}
use Rattle.refusals.proofs.Statuses.{number_some}
use Rattle.inverse_service.proofs.InverseReturns.{inverse_late, place_told, place_scaled, length_fits, length_fits_one, inverse_asked, inverse_done}
use Rattle.inverse_service.proofs.inverse.Goals as goal

pub offset_bounds-f-t : goal.offset_bounds-f-t
offset_bounds-f-t c = let a = c.args in
    search (rules, tt, place_scaled narrow.bound a.n 0 a.f.now c.in_default.ensures refl _ c.leading_place-t.ensures)

pub bounds-f-t : goal.bounds-f-t
bounds-f-t c = let a = c.args in place_told narrow.bound a.n 0 a.f.now c.in_default.ensures refl _ c.leading_place-t.ensures refl refl

pub returns-in-Err-refusal_inverse : goal.returns-in-Err-refusal_inverse
returns-in-Err-refusal_inverse c =
    let a = c.args in
    let e = c.from-in-Err-refusal_inverse.ensures in
    rw (e.0, e.1) (inverse_late narrow a.n 0 a.f.now a.out.now a.work.now c.in_default.ensures refl _ _ _ _ _ c.leading_place-t.ensures
    c.cofactor-e.ensures c.modulus_of-m.ensures.1 c.in-Err-refusal_inverse.ensures (number_some _))

pub inverse_words-requires : goal.inverse_words-requires
inverse_words-requires c = let a = c.args in
    inverse_asked narrow.bound a.n 0 a.f.now c.in_default.ensures refl _ c.modulus_of-m.ensures.1 tt 8192 _ _ _ _ a.out.now a.work.now
    c.leading_place-t.ensures c.cofactor-e.ensures c.in_default-refusal_inverse.ensures refl tt refl refl refl refl refl

pub returns : goal.returns
returns c = let a = c.args in
    inverse_done narrow a.n 0 a.f.now a.out.now a.work.now c.in_default.ensures refl _ _ _ _ _ c.leading_place-t.ensures c.cofactor-e.ensures
    c.modulus_of-m.ensures.1 c.in_default-refusal_inverse.ensures refl _ _ c.inverse_words.ensures.inverse_of c.inverse_words.ensures.work_after
    refl
