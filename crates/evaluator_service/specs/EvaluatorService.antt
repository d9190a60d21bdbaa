-- What the plain evaluator answers (S41), over any width W. f and g are the polynomials sent, of degrees d and e.
--
--   too_large                               d + e is above 8
--   evaluator_refusals, evaluator_status    the refusals in their order, and the number of the first that applies
--   bad_lengths_of, bad_words_of                  the tests of 2, and of 3
--   EvaluatorAnswer                         all that is promised of a call
--   evaluator_listed                        each refusal under its condition and no other
use Rattle.std.specs.Prelude.{◌≡◌, Bool, true, cond, not, List, [], ◌∷◌, ℕ, ◌+◌, ◌≤◌, ltb}
use Rattle.std.proofs.Common.{arith}
use Rattle.definitions.specs.Polynomials.{deg, Residues}
use Rattle.definitions.specs.Resultants.{resultant}
use Rattle.refusals.specs.Refusals.{Width, Tested, bad_modulus_of, bad_length_of, all_below_of, first_refusal, answered}
use Rattle.refusals.specs.Conditions.{Listed, ServedModulus, ServedLength, modulus_fails, length_fails, words_fail, short_fails}

-- S29: "2: … for the plain evaluator, d + e above 8."
abbrev pub too_large : List ℕ → List ℕ → Bool
too_large f g = ltb 8 (deg f + deg g)

-- S29: "1, 2, 3 … in this order; within a number the first polynomial before the second"
abbrev pub evaluator_refusals : Width → ℕ → List ℕ → List ℕ → List Tested
evaluator_refusals W n f g =
    (1, bad_modulus_of W n) ∷ (2, bad_length_of f) ∷ (2, bad_length_of g) ∷ (2, too_large f g)
    ∷ (3, not (all_below_of n f)) ∷ (3, not (all_below_of n g)) ∷ []

abbrev pub evaluator_status : Width → ℕ → List ℕ → List ℕ → ℕ
evaluator_status W n f g = first_refusal (evaluator_refusals W n f g)

-- the tests of one number together
abbrev pub bad_lengths_of : List ℕ → List ℕ → Bool
bad_lengths_of f g = cond (bad_length_of f) true (cond (bad_length_of g) true (too_large f g))

abbrev pub bad_words_of : ℕ → List ℕ → List ℕ → Bool
bad_words_of n f g = cond (all_below_of n f) (not (all_below_of n g)) true

-- S41: "The plain evaluator takes two sent polynomials and answers their Sylvester determinant modulo n"
pub record EvaluatorAnswer (W : Width) (n : ℕ) (f g : List ℕ) (value status : ℕ) : Type 0 where
  pub status_is : status ≡ evaluator_status W n f g
  pub value_is : value ≡ answered status (resultant n f g)

-- the conditions of an answer: so `status_zero` and `status_is` (refusals/Conditions) say when the status is 0, and when it is k
abbrev pub evaluator_conditions : Width → ℕ → List ℕ → List ℕ → List (Type 0)
evaluator_conditions W n f g =
    ServedModulus W n ∷ ServedLength f ∷ ServedLength g ∷ (deg f + deg g ≤ 8) ∷ Residues n f ∷ Residues n g ∷ []

pub evaluator_listed : (W : Width) (n : ℕ) (f g : List ℕ) → Listed (evaluator_refusals W n f g) (evaluator_conditions W n f g)
evaluator_listed W n f g = search (arith, tt, modulus_fails, length_fails, words_fail, short_fails) depth 20
