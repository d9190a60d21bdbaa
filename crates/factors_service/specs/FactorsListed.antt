-- Each refusal of a call on a state comes under its condition and no other: with these, `status_zero` and `status_is`
-- (refusals/Conditions) say when the status is 0, and when it is k.
--
--   NewNumber, ListedNumber, Room       what passes the refusals 14 on arrival, 14 on leaving, and 13
--   arrive_listed, leave_listed, read_listed
use Rattle.std.specs.Prelude.{◌≡◌, refl, Bool, true, false, cond, not, List, [], ◌∷◌, ◌++◌, ℕ, ◌+◌, ◌≤◌, ◌<◌, ltb}
use Rattle.std.proofs.Common.{subst, arith}
use Rattle.definitions.specs.Polynomials.{deg}
use Rattle.refusals.specs.Refusals.{Width}
use Rattle.refusals.specs.Conditions.{Fails, Listed, ServedModulus, conditions_of_pair}
use Rattle.refusals.specs.Conditions.{either_fails, none_fails, below_fails, modulus_fails, length_fails, words_fail, short_fails}
use Rattle.factor_places.specs.Places.{first_place_of, sum, absent, taken, full}
use Rattle.factors_service.specs.declared.Factors.{Factors}
use Rattle.factors_service.specs.FactorsService.{state_h}
use Rattle.factors_service.specs.FactorsService.{arrive_refusals, leave_refusals, reading_refusals}

-- a number that is not 0 and that no place has
pub record NewNumber (k : ℕ) (l : List ℕ) : Type 0 where
  pub nonzero : 1 ≤ k
  pub unused : 16 ≤ first_place_of k l

-- a number that is not 0 and that some place has
pub record ListedNumber (k : ℕ) (l : List ℕ) : Type 0 where
  pub nonzero : 1 ≤ k
  pub used : first_place_of k l < 16

-- a free place, and degrees that add up to 48 or less
pub record Room (d : ℕ) (number degree : List ℕ) : Type 0 where
  pub free_place : first_place_of 0 number < 16
  pub degrees : sum degree + d ≤ 48

taken_fails : (k : ℕ) (l : List ℕ) → Fails (taken k l) (NewNumber k l)
taken_fails k l =
    either_fails (none_fails k) (short_fails (first_place_of k l) 16) (λ a b. record { nonzero = a; unused = b }) (λ m. m.nonzero)
    (λ m. m.unused)

absent_fails : (k : ℕ) (l : List ℕ) → Fails (absent k l) (ListedNumber k l)
absent_fails k l =
    either_fails (none_fails k) (below_fails (first_place_of k l) 16) (λ a b. record { nonzero = a; used = b }) (λ m. m.nonzero) (λ m. m.used)

full_fails : (d : ℕ) (number degree : List ℕ) → Fails (full d number degree) (Room d number degree)
full_fails d number degree =
    subst (λ (b : Bool). Fails b (Room d number degree)) (rotated (ltb (first_place_of 0 number) 16) (ltb 48 (sum degree + d)))
    (either_fails (below_fails (first_place_of 0 number) 16) (short_fails 48 (sum degree + d)) (λ a b. record { free_place = a; degrees = b })
    (λ m. m.free_place) (λ m. m.degrees))
  where
    rotated : (s t : Bool) → cond (not s) true t ≡ cond s t true
    rotated true t = refl
    rotated false t = refl

abbrev pub arrive_conditions : Width → Factors → ℕ → List ℕ → ℕ → List (Type 0)
arrive_conditions W s k f l =
    conditions_of_pair W s.n f (state_h s) ++ (NewNumber k s.number ∷ Room (deg f) s.number s.degree ∷ (W.working ≤ l) ∷ [])

pub arrive_listed : (W : Width) (s : Factors) (k : ℕ) (f : List ℕ) (l : ℕ)
    → Listed (arrive_refusals W s k f l) (arrive_conditions W s k f l)
arrive_listed W s k f l =
    search (arith, tt, modulus_fails, length_fails, words_fail, taken_fails, full_fails, short_fails) depth 20

pub leave_listed : (W : Width) (s : Factors) (k : ℕ)
    → Listed (leave_refusals W s k) (ServedModulus W s.n ∷ ListedNumber k s.number ∷ [])
leave_listed W s k = search (arith, tt, modulus_fails, absent_fails) depth 20

pub read_listed : (W : Width) (s : Factors) → Listed (reading_refusals W s) (ServedModulus W s.n ∷ [])
read_listed W s = search (arith, tt, modulus_fails) depth 20
