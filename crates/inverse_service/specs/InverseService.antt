-- What the inverse of a unit polynomial answers, and what it leaves in every lent word, over any width W. f is the polynomial sent, of
-- degree d.
--
--   inverse_length                       the length of the inverse
--   inverse_refusals, inverse_status     the refusals in their order, and the number of the first that applies
--   HoldsInverse                         the buffer after an answer
--   InverseAnswer                        all that is promised of a call
--   inverse_listed                       each refusal under its condition and no other
use Rattle.std.specs.Prelude.{◌≡◌, not, List, [], ◌∷◌, ◌++◌, ℕ, zero, suc, ◌*◌, ◌≤◌, length, take, drop}
use Rattle.std.proofs.Common.{arith}
use Rattle.definitions.specs.Residues.{K}
use Rattle.definitions.specs.Polynomials.{deg, UnitPolynomial, InverseOf}
use Rattle.refusals.specs.Refusals.{Width, Tested, short, first_refusal, refusals_one, left}
use Rattle.refusals.specs.Conditions.{Listed, conditions_one, modulus_fails, length_fails, words_fail, short_fails}
use Rattle.law_polynomial_tests.specs.UnitTests.{is_unit_polynomial, polynomial_fails}

-- S38: "Inverse: K times d, plus 1."
abbrev pub inverse_length : ℕ → List ℕ → ℕ
inverse_length n f = suc (K n * deg f)

-- S29, S38: 1, 2, 3, "5: … inverse, not a unit polynomial", 6 and 7; lo and l are the lengths of the buffers
abbrev pub inverse_refusals : Width → ℕ → List ℕ → ℕ → ℕ → List Tested
inverse_refusals W n f lo l =
    refusals_one W n f ++ ((5, not (is_unit_polynomial n f)) ∷ (6, short lo (inverse_length n f)) ∷ (7, short l W.working) ∷ [])

abbrev pub inverse_status : Width → ℕ → List ℕ → ℕ → ℕ → ℕ
inverse_status W n f lo l = first_refusal (inverse_refusals W n f lo l)

-- S16, S25: "Its inverse fits in K times d, plus 1, words." "Words beyond these lengths are unchanged."
pub record HoldsInverse (n : ℕ) (f out out' : List ℕ) : Type 0 where
  pub inverse : InverseOf n f (take (inverse_length n f) out')
  pub rest : drop (inverse_length n f) out' ≡ drop (inverse_length n f) out

-- S23: an answer, or a refusal: "every lent buffer is left as found"
abbrev pub InverseLeft : ℕ → ℕ → List ℕ → List ℕ → List ℕ → Type 0
InverseLeft zero n f out out' = HoldsInverse n f out out'
InverseLeft (suc s) n f out out' = out' ≡ out

pub record InverseAnswer (W : Width) (n : ℕ) (f out out' work work' : List ℕ) (value status : ℕ) : Type 0 where
  pub status_is : status ≡ inverse_status W n f (length out) (length work)
  pub value_is : value ≡ 0
  pub result : InverseLeft status n f out out'
  pub work_is : work' ≡ left status work

-- the conditions of an answer: so `status_zero` and `status_is` (refusals/Conditions) say when the status is 0, and when it is k
abbrev pub inverse_conditions : Width → ℕ → List ℕ → ℕ → ℕ → List (Type 0)
inverse_conditions W n f lo l = conditions_one W n f ++ (UnitPolynomial n f ∷ (inverse_length n f ≤ lo) ∷ (W.working ≤ l) ∷ [])

pub inverse_listed : (W : Width) (n : ℕ) (f : List ℕ) (lo l : ℕ)
    → Listed (inverse_refusals W n f lo l) (inverse_conditions W n f lo l)
inverse_listed W n f lo l =
    let six = short_fails lo (inverse_length n f) in
    let seven = short_fails l W.working in (
      (omega arith, modulus_fails W n),
      (
        (omega arith, length_fails f),
        ((omega arith, words_fail n f), ((omega arith, polynomial_fails n f), ((omega arith, six), ((omega arith, seven), tt)))),
      ),
    )
