-- What the cofactors of the resultant answer (02, W1), and what the service leaves in every lent word, over any width W. f and g are the
-- polynomials sent, of degrees d and e; u and v are the buffers of the cofactors.
--
--   room_refusals, cofactor_refusals, cofactor_status    the refusals in their order, and the number of the first that applies
--   CofactorTold                          the same as a record, for the code
--   HoldsCofactors                        the buffers after an answer
--   CofactorAnswer                        all that is promised of a call
--   cofactor_listed                       each refusal under its condition and no other
use Rattle.std.specs.Prelude.{◌≡◌, Bool, List, [], ◌∷◌, ◌++◌, ℕ, zero, suc, ◌+◌, ◌≤◌, length, take}
use Rattle.std.proofs.Common.{arith}
use Rattle.definitions.specs.Polynomials.{deg}
use Rattle.definitions.specs.Resultants.{resultant, Combination}
use Rattle.refusals.specs.Refusals.{Width, Tested, short, first_refusal, refusals_of_pair, answered, left}
use Rattle.answers.specs.Cofactors.{HoldsCofactor}
use Rattle.refusals.specs.Conditions.{Listed, conditions_of_pair, modulus_fails, length_fails, words_fail, short_fails}

-- "It refuses with 9 the pair d = e = 0, tested after 3 and before 6, and 7 comes last": 1, 2, 3, 9, 6 of u before 6 of v, and 7;
-- "Their buffers need e and d words". lu, lv and l are the lengths of the buffers
abbrev pub room_refusals : Width → (d e lu lv l : ℕ) → List Tested
room_refusals W d e lu lv l = (9, short (d + e) 1) ∷ (6, short lu e) ∷ (6, short lv d) ∷ (7, short l W.working) ∷ []

abbrev pub cofactor_refusals : Width → ℕ → List ℕ → List ℕ → ℕ → ℕ → ℕ → List Tested
cofactor_refusals W n f g lu lv l = refusals_of_pair W n f g ++ room_refusals W (deg f) (deg g) lu lv l

abbrev pub cofactor_status : Width → ℕ → List ℕ → List ℕ → ℕ → ℕ → ℕ → ℕ
cofactor_status W n f g lu lv l = first_refusal (cofactor_refusals W n f g lu lv l)

-- s is the first refusal that applies
pub record CofactorTold (W : Width) (n : ℕ) (f g : List ℕ) (lu lv l s : ℕ) : Type 0 where
  pub is : s ≡ cofactor_status W n f g lu lv l

-- "u of e words and v of d words with uf + vg equal to the resultant modulo n"
pub record HoldsCofactors (n : ℕ) (f g u u' v v' : List ℕ) : Type 0 where
  pub first : HoldsCofactor n (deg g) u u'
  pub second : HoldsCofactor n (deg f) v v'
  pub combination : Combination n f g (take (deg g) u') (take (deg f) v') (resultant n f g)

-- "every lent buffer is left as found"
pub record Unchanged (u u' v v' : List ℕ) : Type 0 where
  pub first : u' ≡ u
  pub second : v' ≡ v

-- an answer, or a refusal
abbrev pub CofactorsLeft : ℕ → ℕ → List ℕ → List ℕ → List ℕ → List ℕ → List ℕ → List ℕ → Type 0
CofactorsLeft zero n f g u u' v v' = HoldsCofactors n f g u u' v v'
CofactorsLeft (suc s) n f g u u' v v' = Unchanged u u' v v'

pub record CofactorAnswer (W : Width) (n : ℕ) (f g u u' v v' work work' : List ℕ) (value status : ℕ) : Type 0 where
  pub status_is : status ≡ cofactor_status W n f g (length u) (length v) (length work)
  pub value_is : value ≡ answered status (resultant n f g)
  pub result : CofactorsLeft status n f g u u' v v'
  pub work_is : work' ≡ left status work

-- the conditions of an answer: so `status_zero` and `status_is` (refusals/Conditions) say when the status is 0, and when it is k
abbrev pub cofactor_conditions : Width → ℕ → List ℕ → List ℕ → ℕ → ℕ → ℕ → List (Type 0)
cofactor_conditions W n f g lu lv l =
    conditions_of_pair W n f g ++ ((1 ≤ deg f + deg g) ∷ (deg g ≤ lu) ∷ (deg f ≤ lv) ∷ (W.working ≤ l) ∷ [])

pub cofactor_listed : (W : Width) (n : ℕ) (f g : List ℕ) (lu lv l : ℕ)
    → Listed (cofactor_refusals W n f g lu lv l) (cofactor_conditions W n f g lu lv l)
cofactor_listed W n f g lu lv l = (
  (omega arith, modulus_fails W n),
  (
    (omega arith, length_fails f),
    (
      (omega arith, length_fails g),
      (
        (omega arith, words_fail n f),
        (
          (omega arith, words_fail n g),
          (
            (omega arith, short_fails (deg f + deg g) 1),
            (
              (omega arith, short_fails lu (deg g)),
              ((omega arith, short_fails lv (deg f)), ((omega arith, short_fails l W.working), tt)),
            ),
          ),
        ),
      ),
    ),
  ),
)
