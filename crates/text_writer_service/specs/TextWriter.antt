-- What the writer answers (S56), and what it leaves in every lent byte, over any width W. f is the polynomial sent, t the bytes lent.
--
--   write_refusals, write_status     the refusals in their order, and the number of the first that applies
--   WriteAnswer                      all that is promised of a call
--   write_listed                     each refusal under its condition and no other
use Rattle.std.specs.Prelude.{◌≡◌, List, [], ◌∷◌, ◌++◌, ℕ, ◌≤◌, length}
use Rattle.std.proofs.Common.{arith}
use Rattle.refusals.specs.Refusals.{Width, Tested, short, first_refusal, refusals_one, answered, replaced}
use Rattle.refusals.specs.Conditions.{Listed, conditions_one, modulus_fails, length_fails, words_fail, short_fails}
use Rattle.text_notation.specs.Notation.{text, padded}

-- 1, 2, 3 and 6; l is the number of bytes lent: "needs 800 bytes"
abbrev pub write_refusals : Width → ℕ → List ℕ → ℕ → List Tested
write_refusals W n f l = refusals_one W n f ++ ((6, short l 800) ∷ [])

abbrev pub write_status : Width → ℕ → List ℕ → ℕ → ℕ
write_status W n f l = first_refusal (write_refusals W n f l)

-- S56: "the writer answers the number of characters and needs 800 bytes, zeros above"; "What lies beyond those … 800 bytes is unchanged"
pub record WriteAnswer (W : Width) (n : ℕ) (f t t' : List ℕ) (value status : ℕ) : Type 0 where
  pub status_is : status ≡ write_status W n f (length t)
  pub value_is : value ≡ answered status (length (text f))
  pub text_is : t' ≡ replaced status (padded 800 (text f)) t

-- the conditions of an answer: so `status_zero` and `status_is` (refusals/Conditions) say when the status is 0, and when it is k
abbrev pub write_conditions : Width → ℕ → List ℕ → ℕ → List (Type 0)
write_conditions W n f l = conditions_one W n f ++ ((800 ≤ l) ∷ [])

pub write_listed : (W : Width) (n : ℕ) (f : List ℕ) (l : ℕ) → Listed (write_refusals W n f l) (write_conditions W n f l)
write_listed W n f l = search (arith, tt, modulus_fails, length_fails, words_fail, short_fails) depth 20
