-- The promise of an arrival at each place where it returns, from what the code hands over there.
--
--   arriving     the rules of `arrive_beside` and `arrive`
--   serving      those of `arrive_served`
use mathlib.Core.Path.{◌≡◌, refl, sym, ap, subst, ◌∙◌}
use mathlib.Core.List.{List, [], ◌∷◌}
use Prim.Native.Nat.{ℕ, zero, suc, ◌-◌, ◌≤◌, ◌<◌}
use native.Mathlib.Numerals.{sub-one}
use native.Mathlib.Omega.{arith}
use lib.ListN.{length, take}
use borrow.Author.Rules.{rules}
use mir.Syntax.{w32}
use mir.Val.{Fits}
use Rattle.definitions.specs.Polynomials.{deg}
use Rattle.definitions.specs.Resultants.{resultant}
use Rattle.refusals.specs.Refusals.{narrow, short, first_refusal, refusals_of_pair, left}
use Rattle.refusals.specs.Conditions.{Passed, status_zero}
use Rattle.refusals.proofs.Statuses.{passed_on, front_passes, long_enough, left_refused}
use Rattle.resultant_service.specs.ResultantService.{ResultantAnswer}
use Rattle.factor_places.specs.Places.{first_place_of, taken, full, arrival_tests}
use Rattle.factors_service.specs.declared.Factors.{Factors}
use Rattle.factors_service.specs.FactorsService.{served_length_of, state_h}
use Rattle.factors_service.specs.FactorsService.{arrive_refusals}
use Rattle.factors_service.specs.FactorsService.{replaced_at_of, arrived}
use Rattle.factors_service.specs.FactorsService.{ArriveAsked, ArriveAnswer}
use Rattle.factors_service.specs.FactorsListed.{arrive_conditions, arrive_listed}

-- ---- arrival

unchanged : (s : Factors) (k : ℕ) (f : List ℕ) (x : ℕ) → (x ≡ 0 → ⊥) → s ≡ arrived x s k f
unchanged s k f zero z = absurd (z refl)
unchanged s k f (suc x) z = refl

-- s is the state, h the polynomial that it holds, t what the refusals come to
module _ {s : Factors} {k t : ℕ} {f h work : List ℕ} (same : h ≡ state_h s)
    (e : t ≡ first_refusal (arrival_tests narrow s.n s.number s.degree k f h (length work))) where
  pub arrive_refused : (t ≡ 0 → ⊥) → ArriveAnswer narrow s k f work work s t
  arrive_refused z = record {
    status_is = e ∙ ap (λ (x : List ℕ). first_refusal (arrival_tests narrow s.n s.number s.degree k f x (length work))) same;
    factors_is = unchanged s k f t z;
    work_is = left_refused t work z;
  }

  pub arrive_asked : t ≡ 0 → ArriveAsked s k f h work
  arrive_asked z = record { same = same; none = sym e ∙ z }

module _ {s : Factors} {k : ℕ} {f h work : List ℕ} (a : ArriveAsked s k f h work) where
  none : first_refusal (arrive_refusals narrow s k f (length work)) ≡ 0
  none = subst (λ (x : List ℕ). first_refusal (arrival_tests narrow s.n s.number s.degree k f x (length work)) ≡ 0) a.same
      a.none

  passed : Passed (arrive_conditions narrow s k f (length work))
  passed = (status_zero (arrive_refusals narrow s k f (length work)) (arrive_conditions narrow s k f (length work))
      (arrive_listed narrow s k f (length work))).0 none

  pub arrive_some : 1 ≤ length f
  arrive_some = passed.1.0.some

  pub arrive_fits : Fits w32 (length f - 1)
  arrive_fits = record { fits = omega (arith, passed.1.0.few) }

  pub arrive_free : {i : ℕ} → i ≡ first_place_of 0 s.number → i < 16
  arrive_free p = omega (arith, p, passed.1.1.1.1.1.1.0.free_place)

  -- the resultant is asked of the service, which tests what was tested
  pub arrive_answered : {r : Factors} {work' : List ℕ} {x y i : ℕ} → ResultantAnswer narrow s.n f h work work' x y
      → i ≡ first_place_of 0 s.number → r ≡ replaced_at_of s i k (length f - 1) x → ArriveAnswer narrow s k f work work' r 0
  arrive_answered {r} {work'} {x} {y} {i} w p q = record {
    status_is = sym none;
    factors_is = q ∙ rw (p, sub-one (length f), value);
    work_is = w.work_is ∙ ap (λ (j : ℕ). left j work) zero_status;
  }
    where
      zero_status : y ≡ 0
      zero_status = w.status_is
          ∙ sym (passed_on (refusals_of_pair narrow s.n f h) ((7, short (length work) 8192) ∷ []) 0 0
          (sym (front_passes (refusals_of_pair narrow s.n f h)
          ((14, taken k s.number) ∷ (13, full (deg f) s.number s.degree) ∷ (7, short (length work) 8192) ∷ []) a.none))
          refl (long_enough 7 (length work) 8192 [] 0 passed.1.1.1.1.1.1.1.0 refl))

      value : x ≡ resultant s.n f (state_h s)
      value = w.value_is ∙ rw (zero_status, a.same)

pub state_room : (l : ℕ) (w : List ℕ) → l ≤ 49 → length w ≡ 49 → l ≤ length w
state_room l w h e = omega arith

pub part_present : (s : Factors) (l : ℕ) → l ≡ served_length_of s.len → take (l - 0) s.h ≡ state_h s
part_present s l e = let z : l - 0 ≡ l = omega arith in ap (λ (j : ℕ). take j s.h) (z ∙ e)

pub ruleset arriving = (rules, arrive_refused, arrive_asked, state_room, part_present)

pub ruleset serving = (rules, arrive_some, arrive_fits, arrive_free, arrive_answered)
