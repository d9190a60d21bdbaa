-- What the product answers (S34), and what it leaves in every lent word, over any width W. f and g are the polynomials sent, of degrees d
-- and e.
--
--   product_sent, product_refusals, product_status     the refusals in their order, and the number of the first that applies
--   ProductAnswer                                      all that is promised of a call
--   product_listed                                     each refusal under its condition and no other
use Rattle.std.specs.Prelude.{◌≡◌, not, List, [], ◌∷◌, ◌++◌, ℕ, suc, ◌+◌, ◌≤◌, ltb, length}
use Rattle.std.proofs.Common.{arith}
use Rattle.definitions.specs.Polynomials.{deg, product, Residues}
use Rattle.refusals.specs.Refusals.{Width, Tested, bad_modulus_of, bad_length_of, all_below_of, short, first_refusal, replaced}
use Rattle.refusals.specs.Conditions.{Listed, ServedModulus, ServedLength, modulus_fails, length_fails, words_fail, short_fails}

-- S29: 1, 2 and 3, which the sender of a job can cause: "2: … for a product, d + e above 48" stands after 2 of f and of g
abbrev pub product_sent : Width → ℕ → List ℕ → List ℕ → List Tested
product_sent W n f g =
    (1, bad_modulus_of W n) ∷ (2, bad_length_of f) ∷ (2, bad_length_of g) ∷ (2, ltb 48 (deg f + deg g))
    ∷ (3, not (all_below_of n f)) ∷ (3, not (all_below_of n g)) ∷ []

-- S34: and 6: "Product: d + e + 1 words"; l is the length of the result buffer
abbrev pub product_refusals : Width → ℕ → List ℕ → List ℕ → ℕ → List Tested
product_refusals W n f g l = product_sent W n f g ++ ((6, short l (suc (deg f + deg g))) ∷ [])

abbrev pub product_status : Width → ℕ → List ℕ → List ℕ → ℕ → ℕ
product_status W n f g l = first_refusal (product_refusals W n f g l)

pub record ProductAnswer (W : Width) (n : ℕ) (f g out out' : List ℕ) (value status : ℕ) : Type 0 where
  pub status_is : status ≡ product_status W n f g (length out)
  pub value_is : value ≡ 0
  pub out_is : out' ≡ replaced status (product n f g) out

-- the conditions of an answer: so `status_zero` and `status_is` (refusals/Conditions) say when the status is 0, and when it is k
abbrev pub sent_conditions : Width → ℕ → List ℕ → List ℕ → List (Type 0)
sent_conditions W n f g =
    ServedModulus W n ∷ ServedLength f ∷ ServedLength g ∷ (deg f + deg g ≤ 48) ∷ Residues n f ∷ Residues n g ∷ []

abbrev pub product_conditions : Width → ℕ → List ℕ → List ℕ → ℕ → List (Type 0)
product_conditions W n f g l = sent_conditions W n f g ++ ((suc (deg f + deg g) ≤ l) ∷ [])

pub product_listed : (W : Width) (n : ℕ) (f g : List ℕ) (l : ℕ) → Listed (product_refusals W n f g l) (product_conditions W n f g l)
product_listed W n f g l = search (arith, tt, modulus_fails, length_fails, words_fail, short_fails) depth 20
