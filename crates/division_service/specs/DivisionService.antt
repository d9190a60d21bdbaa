-- What the division answers, and what it leaves in every lent word, over any width W. f and g are the polynomials sent, of degrees d
-- and e; q and r are the buffers of quotient and remainder.
--
--   division_refusals, division_status     the refusals in their order, and the number of the first that applies
--   HoldsDivision                          the buffers after an answer
--   DivisionAnswer                         all that is promised of a call
--   division_listed                        each refusal under its condition and no other
use Rattle.std.specs.Prelude.{◌≡◌, not, List, [], ◌∷◌, ◌++◌, ℕ, zero, suc, ◌≤◌, length, take, drop}
use Rattle.std.proofs.Common.{arith}
use Rattle.definitions.specs.Residues.{IsUnit}
use Rattle.definitions.specs.Polynomials.{coef, deg, Division, quotient_length}
use Rattle.refusals.specs.Refusals.{Width, Tested, short, first_refusal, refusals_of_pair}
use Rattle.refusals.specs.Conditions.{Listed, conditions_of_pair, modulus_fails, length_fails, words_fail, short_fails}
use Rattle.law_polynomial_tests.specs.UnitTests.{is_unit, unit_fails}

-- S29, S36: 1, 2, 3, "4: division, the divisor's top word is not a unit", and 6 of q before 6 of r; lq and lr are the lengths of the
-- buffers
abbrev pub division_refusals : Width → ℕ → List ℕ → List ℕ → ℕ → ℕ → List Tested
division_refusals W n f g lq lr =
    refusals_of_pair W n f g
    ++ ((4, not (is_unit n (coef g (deg g)))) ∷ (6, short lq (quotient_length (deg f) (deg g))) ∷ (6, short lr (deg g)) ∷ [])

abbrev pub division_status : Width → ℕ → List ℕ → List ℕ → ℕ → ℕ → ℕ
division_status W n f g lq lr = first_refusal (division_refusals W n f g lq lr)

-- S15, S25: "f = qg + r, r of e words (none for e = 0), q of d - e + 1 words"; "Words beyond these lengths are unchanged."
pub record HoldsDivision (n : ℕ) (f g q q' r r' : List ℕ) : Type 0 where
  pub division : Division n f g (take (quotient_length (deg f) (deg g)) q') (take (deg g) r')
  pub rest_q : drop (quotient_length (deg f) (deg g)) q' ≡ drop (quotient_length (deg f) (deg g)) q
  pub rest_r : drop (deg g) r' ≡ drop (deg g) r

-- S23: an answer, or a refusal: "every lent buffer is left as found"
abbrev pub DivisionLeft : ℕ → ℕ → List ℕ → List ℕ → List ℕ → List ℕ → List ℕ → List ℕ → Type 0
DivisionLeft zero n f g q q' r r' = HoldsDivision n f g q q' r r'
DivisionLeft (suc s) n f g q q' r r' = (q' ≡ q) × (r' ≡ r)

pub record DivisionAnswer (W : Width) (n : ℕ) (f g q q' r r' : List ℕ) (value status : ℕ) : Type 0 where
  pub status_is : status ≡ division_status W n f g (length q) (length r)
  pub value_is : value ≡ 0
  pub result : DivisionLeft status n f g q q' r r'

-- the conditions of an answer: so `status_zero` and `status_is` (refusals/Conditions) say when the status is 0, and when it is k
abbrev pub division_conditions : Width → ℕ → List ℕ → List ℕ → ℕ → ℕ → List (Type 0)
division_conditions W n f g lq lr =
    conditions_of_pair W n f g ++ (IsUnit n (coef g (deg g)) ∷ (quotient_length (deg f) (deg g) ≤ lq) ∷ (deg g ≤ lr) ∷ [])

pub division_listed : (W : Width) (n : ℕ) (f g : List ℕ) (lq lr : ℕ)
    → Listed (division_refusals W n f g lq lr) (division_conditions W n f g lq lr)
division_listed W n f g lq lr =
    search (arith, tt, modulus_fails, length_fails, words_fail, unit_fails, short_fails) depth 20
