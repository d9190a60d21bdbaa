use Rattle.std.proofs.Common.{refl, rules}
use Rattle.refusals.specs.Refusals.{narrow}
use Rattle.refusals.proofs.Statuses.{number_some}
use Rattle.unit_monic_service.proofs.UnitMonicReturns.{late_told, done_told}
use Rattle.unit_monic_service.proofs.Ends.{place_told, place_scaled, place_word, words_asked}
use Rattle.unit_monic_service.proofs.unit_times_monic.Goals as goal

pub offset_bounds-f-t : goal.offset_bounds-f-t
offset_bounds-f-t c = let a = c.args in
    search (rules, place_scaled narrow a.n 0 a.f.now c.in_default.ensures refl _ c.leading_place-t.ensures)

pub bounds-f-t : goal.bounds-f-t
bounds-f-t c = let a = c.args in place_told narrow a.n 0 a.f.now c.in_default.ensures refl _ c.leading_place-t.ensures

pub returns-in-Err-refusal_factors : goal.returns-in-Err-refusal_factors
returns-in-Err-refusal_factors c =
    let a = c.args in
    let e = c.from-in-Err-refusal_factors.ensures in
    rw (e.0, e.1) (late_told narrow a.n 0 a.f.now c.in_default.ensures refl _ c.leading_place-t.ensures _ _ _ a.u.now a.h.now a.work.now
    c.cofactor-e.ensures c.in-Err-refusal_factors.ensures (number_some _))

pub factor_words-requires : goal.factor_words-requires
factor_words-requires c = let a = c.args in
    words_asked narrow a.n 0 a.f.now c.in_default.ensures refl _ c.leading_place-t.ensures _ _ _ a.u.now a.h.now a.work.now c.cofactor-e.ensures
    c.in_default-refusal_factors.ensures refl tt refl refl refl refl refl refl refl

pub overflow_cast-result : goal.overflow_cast-result
overflow_cast-result c = let a = c.args in place_word narrow a.n 0 a.f.now c.in_default.ensures refl _ c.leading_place-t.ensures

pub returns : goal.returns
returns c = let a = c.args in
    done_told narrow a.n 0 a.f.now c.in_default.ensures refl _ c.leading_place-t.ensures _ _ _ a.u.now a.h.now a.work.now c.cofactor-e.ensures
    c.in_default-refusal_factors.ensures refl _ _ _ c.factor_words.ensures.unit_times_monic c.factor_words.ensures.work_after refl refl refl
