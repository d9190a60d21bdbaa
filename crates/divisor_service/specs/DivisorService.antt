-- What the service for D alone answers (S44), and what it leaves in every lent word, over any width W. f and g are the polynomials sent.
--
--   divisor_refusals, divisor_status    the refusals in their order, and the number of the first that applies
--   DivisorLeft                         D, or nothing
--   DivisorAnswer                       all that is promised of a call
--   divisor_listed                      each refusal under its condition and no other
use Rattle.std.specs.Prelude.{◌≡◌, List, [], ◌∷◌, ◌++◌, ℕ, zero, suc, ◌≤◌, length}
use Rattle.std.proofs.Common.{arith}
use Rattle.definitions.specs.Resultants.{Reduced}
use Rattle.refusals.specs.Refusals.{Width, Tested, short, first_refusal, refusals_of_pair, left}
use Rattle.refusals.specs.Conditions.{Listed, conditions_of_pair, modulus_fails, length_fails, words_fail, short_fails}

-- 1, 2, 3 and 7; l is the length of the working buffer
abbrev pub divisor_refusals : Width → ℕ → List ℕ → List ℕ → ℕ → List Tested
divisor_refusals W n f g l = refusals_of_pair W n f g ++ ((7, short l W.working) ∷ [])

abbrev pub divisor_status : Width → ℕ → List ℕ → List ℕ → ℕ → ℕ
divisor_status W n f g l = first_refusal (divisor_refusals W n f g l)

-- S11, S23: "D runs from 1 to n and divides n. A constant c from 0 to n - 1 … is reached exactly when D divides c"; of a refusal, "value 0"
abbrev pub DivisorLeft : ℕ → ℕ → List ℕ → List ℕ → ℕ → Type 0
DivisorLeft zero n f g value = Reduced n f g value
DivisorLeft (suc s) n f g value = value ≡ 0

pub record DivisorAnswer (W : Width) (n : ℕ) (f g work work' : List ℕ) (value status : ℕ) : Type 0 where
  pub status_is : status ≡ divisor_status W n f g (length work)
  pub result : DivisorLeft status n f g value
  pub work_is : work' ≡ left status work

-- the conditions of an answer: so `status_zero` and `status_is` (refusals/Conditions) say when the status is 0, and when it is k
abbrev pub divisor_conditions : Width → ℕ → List ℕ → List ℕ → ℕ → List (Type 0)
divisor_conditions W n f g l = conditions_of_pair W n f g ++ ((W.working ≤ l) ∷ [])

pub divisor_listed : (W : Width) (n : ℕ) (f g : List ℕ) (l : ℕ) → Listed (divisor_refusals W n f g l) (divisor_conditions W n f g l)
divisor_listed W n f g l = search (arith, tt, modulus_fails, length_fails, words_fail, short_fails) depth 20
