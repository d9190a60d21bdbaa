-- What the reader answers, and what it leaves in every lent word, over any width W. s is the text, w the words lent.
--
--   read_refusals, read_status     the refusals in their order, and the number of the first that applies
--   ReadAnswer                     all that is promised of a call
--   HandedOver, WordsAnswer        the parts of it: the words of a text handed over, and the answer to them
--   read_listed                    each refusal under its condition and no other
use Rattle.std.specs.Prelude.{◌≡◌, not, List, [], ◌∷◌, ℕ, ◌≤◌, length}
use Rattle.std.proofs.Common.{arith}
use Rattle.refusals.specs.Refusals.{Width, Tested, bad_modulus_of, all_below_of, short, first_refusal, answered, replaced}
use Rattle.refusals.specs.Conditions.{Listed, ServedModulus, modulus_fails, short_fails}
use Rattle.text_notation.specs.Notation.{dropped, padded, TextOf}
use Rattle.text_notation.specs.Candidates.{is_text}
use Rattle.text_notation.proofs.NotationLaws.{text_fails}

-- "It refuses with 17 any other text or a power above 48, tested after 1 and before 6"; l is the number of words lent: "needs 49 words"
abbrev pub read_refusals : Width → ℕ → List ℕ → ℕ → List Tested
read_refusals W n s l = (1, bad_modulus_of W n) ∷ (17, not (is_text n s)) ∷ (6, short l 49) ∷ []

abbrev pub read_status : Width → ℕ → List ℕ → ℕ → ℕ
read_status W n s l = first_refusal (read_refusals W n s l)

-- "A text that is read is the text that would be written"; "The reader answers the number of words and needs 49 words, zeros above";
-- "What lies beyond those 49 words … is unchanged"
pub record ReadAnswer (W : Width) (n : ℕ) (s w w' : List ℕ) (value status : ℕ) : Type 0 where
  pub polynomial : List ℕ
  pub status_is : status ≡ read_status W n s (length w)
  pub text_is : status ≡ 0 → TextOf n s polynomial
  pub value_is : value ≡ answered status (length polynomial)
  pub words_are : w' ≡ replaced status (padded 49 polynomial) w

-- the 49 words g went into the words w, which became w'; count of them are the polynomial
pub record HandedOver (g : List ℕ) (count : ℕ) (w w' : List ℕ) (value status : ℕ) : Type 0 where
  pub status_is : status ≡ first_refusal ((6, short (length w) 49) ∷ [])
  pub value_is : value ≡ answered status count
  pub words_are : w' ≡ replaced status g w

-- the same, where they are residues: "Coefficients are decimal from 1 to n - 1"
pub record WordsAnswer (n : ℕ) (g w w' : List ℕ) (value status : ℕ) : Type 0 where
  pub status_is : status ≡ first_refusal ((17, not (all_below_of n g)) ∷ (6, short (length w) 49) ∷ [])
  pub value_is : value ≡ answered status (length (dropped g))
  pub words_are : w' ≡ replaced status g w

-- the conditions of an answer: so `status_zero` and `status_is` (refusals/Conditions) say when the status is 0, and when it is k
abbrev pub read_conditions : Width → ℕ → List ℕ → ℕ → List (Type 0)
read_conditions W n s l = ServedModulus W n ∷ ((f : List ℕ) × TextOf n s f) ∷ (49 ≤ l) ∷ []

pub read_listed : (W : Width) (n : ℕ) (s : List ℕ) (l : ℕ) → Listed (read_refusals W n s l) (read_conditions W n s l)
read_listed W n s l = search (arith, tt, modulus_fails, text_fails, short_fails) depth 20
