-- What `unit_times_monic` returns, at each of its ends.
--
--   late, late_accepted              what the code tests after the refusals 1, 2 and 3, and what is known where none of it applies
--   factors_refused, late_told, done_told     the answers
use mathlib.Core.Path.{◌≡◌, refl, sym, ap, subst, ◌∙◌}
use mathlib.Core.Bool.{Bool, not}
use mathlib.Core.List.{List, [], ◌∷◌}
use Prim.Native.Nat.{ℕ, zero, suc, ◌-◌, ◌≤◌}
use native.Mathlib.Nat.{sub-zero}
use native.Mathlib.Omega.{arith}
use borrow.Rule.Slice.PartMut.{put_mid}
use lib.Dec.{eqb}
use lib.ListN.{length, get_or, take, replicate}
use Rattle.definitions.specs.Polynomials.{UnitTimesMonic}
use Rattle.law_numbers.specs.Divisors.{GcdCofactor}
use Rattle.refusals.specs.Refusals.{Width, Tested, short, first_refusal, refusals_one}
use Rattle.refusals.specs.Conditions.{accepted_one, status_zero, short_fails, equal_fails}
use Rattle.refusals.proofs.Statuses.{refused_early, passed_on, refused_value, left_refused}
use Rattle.law_polynomial_tests.specs.Buffers.{placed_take, placed_drop}
use Rattle.law_polynomial_tests.specs.UnitTests.{lead_place, has_lead}
use Rattle.unit_monic_service.specs.FactorsService.{UnitTimesMonicLeft, UnitTimesMonicAnswer}
use Rattle.unit_monic_service.proofs.LeadingPlace.{lead_of}

-- g is what the leading coefficient has in common with n
abbrev pub late : Width → ℕ → ℕ → ℕ → ℕ → ℕ → List Tested
late W g lu lh len l = (5, not (eqb g 1)) ∷ (6, short lu len) ∷ (6, short lh len) ∷ (7, short l W.working) ∷ []

pub record LateAccepted (W : Width) (g lu lh len l : ℕ) : Type 0 where
  pub one : g ≡ 1
  pub room_u : len ≤ lu
  pub room_h : len ≤ lh
  pub working : W.working ≤ l

pub late_accepted : (W : Width) (g lu lh len l r : ℕ) → r ≡ first_refusal (late W g lu lh len l) → r ≡ 0 → LateAccepted W g lu lh len l
late_accepted W g lu lh len l r is z =
    let p = (status_zero (late W g lu lh len l) ((g ≡ 1) ∷ (len ≤ lu) ∷ (len ≤ lh) ∷ (W.working ≤ l) ∷ []) (
      (omega arith, equal_fails g 1),
      ((omega arith, short_fails lu len), ((omega arith, short_fails lh len), ((omega arith, short_fails l W.working), tt))),
    )).0 (sym is ∙ z) in
    record { one = p.0; room_u = p.1.0; room_h = p.1.1.0; working = p.1.1.1.0 }

nothing_left : (s n : ℕ) (f u h : List ℕ) → (s ≡ 0 → ⊥) → UnitTimesMonicLeft s n f u u h h
nothing_left zero n f u h b = absurd (b refl)
nothing_left (suc s) n f u h b = (refl, refl)

-- 5, 6 and 7 as they are asked
abbrev asked : Width → ℕ → List ℕ → List ℕ → List ℕ → List ℕ → List Tested
asked W n f u h work =
    (5, not (has_lead n f)) ∷ (6, short (length u) (length f)) ∷ (6, short (length h) (length f))
    ∷ (7, short (length work) W.working) ∷ []

pub factors_refused : (W : Width) (n s : ℕ) (f u h work : List ℕ) → s ≡ first_refusal (refusals_one W n f) → (s ≡ 0 → ⊥)
    → UnitTimesMonicAnswer W n f u u h h work work 0 s
factors_refused W n s f u h work is b = record {
  status_is = refused_early (refusals_one W n f) (asked W n f u h work) s is b;
  value_is = refused_value s (lead_place n f) b;
  result = nothing_left s n f u h b;
  work_is = left_refused s work b;
}

module _ (W : Width) (n s : ℕ) (f : List ℕ) (is : s ≡ first_refusal (refusals_one W n f)) (z : s ≡ 0) (t : ℕ) (et : t ≡ lead_place n f)
    (g v r : ℕ) (u h work : List ℕ) (cf : GcdCofactor n (get_or f t 0) g v)
    (er : r ≡ first_refusal (late W g (length u) (length h) (length f) (length work))) where
  -- the code tests what is asked
  late_is : first_refusal (late W g (length u) (length h) (length f) (length work)) ≡ first_refusal (asked W n f u h work)
  late_is =
      let a = accepted_one W n f (sym is ∙ z) in
      ap (λ (b : Bool). first_refusal ((5, not b) ∷ (6, short (length u) (length f)) ∷ (6, short (length h) (length f))
      ∷ (7, short (length work) W.working) ∷ [])) (sym (lead_of n t g v f a.modulus a.some et cf))

  pub late_told : (r ≡ 0 → ⊥) → UnitTimesMonicAnswer W n f u u h h work work 0 r
  late_told b = record {
    status_is = passed_on (refusals_one W n f) (asked W n f u h work) s r is z (er ∙ late_is);
    value_is = refused_value r (lead_place n f) b;
    result = nothing_left r n f u h b;
    work_is = left_refused r work b;
  }

  pub done_told : r ≡ 0 → {x : ℕ} {u' h' : List ℕ} (ys zs work' : List ℕ) → UnitTimesMonic n f t ys zs → work' ≡ replicate (length work) 0
      → u' ≡ put_mid 0 (length f - 0) u ys → h' ≡ put_mid 0 (length f - 0) h zs → x ≡ t → UnitTimesMonicAnswer W n f u u' h h' work work' x 0
  done_told w ys zs work' d c eu eh ex =
      let k : ℕ = length f - 0 in
      rw (eu, eh, ex) (record {
        status_is = passed_on (refusals_one W n f) (asked W n f u h work) s 0 is z (sym w ∙ er ∙ late_is);
        value_is = et;
        result = record {
          parts = subst (λ (x : ℕ). UnitTimesMonic n f x (take (length f) (put_mid 0 k u ys)) (take (length f) (put_mid 0 k h zs))) et
              (subst (λ (x : List ℕ). UnitTimesMonic n f t x (take (length f) (put_mid 0 k h zs)))
              (sym (placed_take k (length f) u ys d.length_u))
              (subst (λ (x : List ℕ). UnitTimesMonic n f t ys x) (sym (placed_take k (length f) h zs d.length_h)) d));
          rest_u = placed_drop k (length f) u ys d.length_u (sub-zero (length f));
          rest_h = placed_drop k (length f) h zs d.length_h (sub-zero (length f));
        };
        work_is = c;
      })
