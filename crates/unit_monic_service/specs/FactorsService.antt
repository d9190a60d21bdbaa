-- What unit times monic answers, and what it leaves in every lent word, over any width W. f is the polynomial sent, of degree d; u and
-- h are the buffers of unit and monic part.
--
--   unit_times_monic_refusals, unit_times_monic_status     the refusals in their order, and the number of the first that applies
--   HoldsFactors                                           the buffers after an answer
--   UnitTimesMonicAnswer                                   all that is promised of a call
--   unit_times_monic_listed                                each refusal under its condition and no other
use Rattle.std.specs.Prelude.{◌≡◌, not, List, [], ◌∷◌, ◌++◌, ℕ, zero, suc, ◌≤◌, length, take, drop}
use Rattle.std.proofs.Common.{arith}
use Rattle.definitions.specs.Polynomials.{UnitTimesMonic}
use Rattle.refusals.specs.Refusals.{Width, Tested, short, first_refusal, refusals_one, answered, left}
use Rattle.refusals.specs.Conditions.{Listed, conditions_one, modulus_fails, length_fails, words_fail, short_fails}
use Rattle.law_polynomial_tests.specs.UnitTests.{lead_place, has_lead, UnitSomewhere, lead_fails}

-- 1, 2, 3, "5: unit times monic, no coefficient t as described", 6 of u before 6 of h, and 7; lu, lh and l are the lengths of the
-- buffers, and the results need d + 1 words each
abbrev pub unit_times_monic_refusals : Width → ℕ → List ℕ → ℕ → ℕ → ℕ → List Tested
unit_times_monic_refusals W n f lu lh l =
    refusals_one W n f
    ++ ((5, not (has_lead n f)) ∷ (6, short lu (length f)) ∷ (6, short lh (length f)) ∷ (7, short l W.working) ∷ [])

abbrev pub unit_times_monic_status : Width → ℕ → List ℕ → ℕ → ℕ → ℕ → ℕ
unit_times_monic_status W n f lu lh l = first_refusal (unit_times_monic_refusals W n f lu lh l)

-- "Unit and monic part: d + 1 words each, zeros above." "Words beyond these lengths are unchanged."
pub record HoldsFactors (n : ℕ) (f u u' h h' : List ℕ) : Type 0 where
  pub parts : UnitTimesMonic n f (lead_place n f) (take (length f) u') (take (length f) h')
  pub rest_u : drop (length f) u' ≡ drop (length f) u
  pub rest_h : drop (length f) h' ≡ drop (length f) h

-- an answer, or a refusal: "every lent buffer is left as found"
abbrev pub UnitTimesMonicLeft : ℕ → ℕ → List ℕ → List ℕ → List ℕ → List ℕ → List ℕ → Type 0
UnitTimesMonicLeft zero n f u u' h h' = HoldsFactors n f u u' h h'
UnitTimesMonicLeft (suc s) n f u u' h h' = (u' ≡ u) × (h' ≡ h)

-- the value is t: "h monic of degree t"
pub record UnitTimesMonicAnswer (W : Width) (n : ℕ) (f u u' h h' work work' : List ℕ) (value status : ℕ) : Type 0 where
  pub status_is : status ≡ unit_times_monic_status W n f (length u) (length h) (length work)
  pub value_is : value ≡ answered status (lead_place n f)
  pub result : UnitTimesMonicLeft status n f u u' h h'
  pub work_is : work' ≡ left status work

-- the conditions of an answer: so `status_zero` and `status_is` (refusals/Conditions) say when the status is 0, and when it is k
abbrev pub unit_times_monic_conditions : Width → ℕ → List ℕ → ℕ → ℕ → ℕ → List (Type 0)
unit_times_monic_conditions W n f lu lh l =
    conditions_one W n f ++ (UnitSomewhere n f ∷ (length f ≤ lu) ∷ (length f ≤ lh) ∷ (W.working ≤ l) ∷ [])

pub unit_times_monic_listed : (W : Width) (n : ℕ) (f : List ℕ) (lu lh l : ℕ)
    → Listed (unit_times_monic_refusals W n f lu lh l) (unit_times_monic_conditions W n f lu lh l)
unit_times_monic_listed W n f lu lh l =
    let six_u = short_fails lu (length f) in
    let six_h = short_fails lh (length f) in
    let seven = short_fails l W.working in (
      (omega arith, modulus_fails W n),
      (
        (omega arith, length_fails f),
        (
          (omega arith, words_fail n f),
          ((omega arith, lead_fails n f), ((omega arith, six_u), ((omega arith, six_h), ((omega arith, seven), tt)))),
        ),
      ),
    )
