-- What the resultant answers (S42), and what it leaves in every lent word, over any width W. f and g are the polynomials sent.
--
--   resultant_refusals, resultant_status    the refusals in their order, and the number of the first that applies
--   ResultantAnswer                         all that is promised of a call
--   resultant_listed                        each refusal under its condition and no other
use Rattle.std.specs.Prelude.{◌≡◌, List, [], ◌∷◌, ◌++◌, ℕ, ◌≤◌, length}
use Rattle.std.proofs.Common.{arith}
use Rattle.definitions.specs.Resultants.{resultant}
use Rattle.refusals.specs.Refusals.{Width, Tested, short, first_refusal, refusals_of_pair, answered, left}
use Rattle.refusals.specs.Conditions.{Listed, conditions_of_pair, modulus_fails, length_fails, words_fail, short_fails}

-- 1, 2, 3 and 7; l is the length of the working buffer
abbrev pub resultant_refusals : Width → ℕ → List ℕ → List ℕ → ℕ → List Tested
resultant_refusals W n f g l = refusals_of_pair W n f g ++ ((7, short l W.working) ∷ [])

abbrev pub resultant_status : Width → ℕ → List ℕ → List ℕ → ℕ → ℕ
resultant_status W n f g l = first_refusal (resultant_refusals W n f g l)

pub record ResultantAnswer (W : Width) (n : ℕ) (f g work work' : List ℕ) (value status : ℕ) : Type 0 where
  pub status_is : status ≡ resultant_status W n f g (length work)
  pub value_is : value ≡ answered status (resultant n f g)
  pub work_is : work' ≡ left status work

-- the conditions of an answer: so `status_zero` and `status_is` (refusals/Conditions) say when the status is 0, and when it is k
abbrev pub resultant_conditions : Width → ℕ → List ℕ → List ℕ → ℕ → List (Type 0)
resultant_conditions W n f g l = conditions_of_pair W n f g ++ ((W.working ≤ l) ∷ [])

pub resultant_listed : (W : Width) (n : ℕ) (f g : List ℕ) (l : ℕ) → Listed (resultant_refusals W n f g l) (resultant_conditions W n f g l)
resultant_listed W n f g l = search (arith, tt, modulus_fails, length_fails, words_fail, short_fails) depth 20
