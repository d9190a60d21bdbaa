-- The refusals of the checking of a claim (02, W12), over any width W. f and g are the polynomials sent, u and v are the multipliers.
--
--   bad_multiplier_of, ServedMultiplier       the test of refusal 16, and what passes it
--   ServedLengthsAsked                     what passes 2 and 16
--   claim_refusals, claim_status           the refusals in their order, and the number of the first that applies
--   claim_listed                           each refusal under its condition and no other
use Rattle.std.specs.Prelude.{Bool, true, cond, not, List, [], ◌∷◌, ◌++◌, ℕ, ◌≤◌, ltb, eqb, length}
use Rattle.std.proofs.Common.{arith}
use Rattle.definitions.specs.Polynomials.{Residues}
use Rattle.refusals.specs.Refusals.{Width, Tested, bad_modulus_of, bad_length_of, all_below_of, short, first_refusal}
use Rattle.refusals.specs.Conditions.{ServedModulus, ServedLength, Fails}
use Rattle.refusals.specs.Conditions.{Listed, either_fails, none_fails, modulus_fails, length_fails, words_fail, short_fails}

-- "It refuses with 16 a multiplier of a length outside 1 to 4096"
abbrev pub bad_multiplier_of : List ℕ → Bool
bad_multiplier_of u = cond (eqb (length u) 0) true (ltb 4096 (length u))

pub record ServedMultiplier (u : List ℕ) : Type 0 where
  pub some : 1 ≤ length u
  pub few : length u ≤ 4096

-- no length is refused
pub record ServedLengthsAsked (f g u v : List ℕ) : Type 0 where
  pub first : ServedLength f
  pub second : ServedLength g
  pub first_multiplier : ServedMultiplier u
  pub second_multiplier : ServedMultiplier v

-- 1, 2 and 16: "tested after 2"
abbrev pub size_refusals : Width → ℕ → List ℕ → List ℕ → List ℕ → List ℕ → List Tested
size_refusals W n f g u v =
    (1, bad_modulus_of W n) ∷ (2, bad_length_of f) ∷ (2, bad_length_of g) ∷ (16, bad_multiplier_of u) ∷ (16, bad_multiplier_of v) ∷ []

-- "Words of f, g and the multipliers are tested like those of a polynomial."
abbrev pub word_refusals : ℕ → List ℕ → List ℕ → List ℕ → List ℕ → List Tested
word_refusals n f g u v =
    (3, not (all_below_of n f)) ∷ (3, not (all_below_of n g)) ∷ (3, not (all_below_of n u)) ∷ (3, not (all_below_of n v)) ∷ []

-- "refusals 3 and 7 follow"; l is the number of working words. The claimed D is in none of them: it "is never refused"
abbrev pub claim_refusals : Width → ℕ → List ℕ → List ℕ → List ℕ → List ℕ → ℕ → List Tested
claim_refusals W n f g u v l = size_refusals W n f g u v ++ (word_refusals n f g u v ++ ((7, short l W.working) ∷ []))

abbrev pub claim_status : Width → ℕ → List ℕ → List ℕ → List ℕ → List ℕ → ℕ → ℕ
claim_status W n f g u v l = first_refusal (claim_refusals W n f g u v l)

pub multiplier_fails : (u : List ℕ) → Fails (bad_multiplier_of u) (ServedMultiplier u)
multiplier_fails u =
    either_fails (none_fails (length u)) (short_fails 4096 (length u)) (λ a b. record { some = a; few = b }) (λ m. m.some) (λ m. m.few)

abbrev pub size_conditions : Width → ℕ → List ℕ → List ℕ → List ℕ → List ℕ → List (Type 0)
size_conditions W n f g u v = ServedModulus W n ∷ ServedLength f ∷ ServedLength g ∷ ServedMultiplier u ∷ ServedMultiplier v ∷ []

pub size_listed : (W : Width) (n : ℕ) (f g u v : List ℕ) → Listed (size_refusals W n f g u v) (size_conditions W n f g u v)
size_listed W n f g u v = search (arith, tt, modulus_fails, length_fails, multiplier_fails) depth 20

-- the conditions of an answer: so `status_zero` and `status_is` (refusals/Conditions) say when the status is 0, and when it is k
abbrev pub claim_conditions : Width → ℕ → List ℕ → List ℕ → List ℕ → List ℕ → ℕ → List (Type 0)
claim_conditions W n f g u v l =
    ServedModulus W n ∷ ServedLength f ∷ ServedLength g ∷ ServedMultiplier u ∷ ServedMultiplier v
    ∷ Residues n f ∷ Residues n g ∷ Residues n u ∷ Residues n v ∷ (W.working ≤ l) ∷ []

pub claim_listed : (W : Width) (n : ℕ) (f g u v : List ℕ) (l : ℕ)
    → Listed (claim_refusals W n f g u v l) (claim_conditions W n f g u v l)
claim_listed W n f g u v l = search (arith, tt, modulus_fails, length_fails, multiplier_fails, words_fail, short_fails) depth 30
