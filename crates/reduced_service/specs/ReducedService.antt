-- What the reduced resultant answers, and what it leaves in every lent word, over any width W. f and g are the polynomials sent, of
-- degrees d and e.
--
--   reduced_refusals, reduced_status    the refusals in their order, and the number of the first that applies
--   LeastConstants                      the rule for the cofactors of two constants
--   HoldsCofactor, HoldsReduced         the buffers after an answer
--   ReducedAnswer                       all that is promised of a call
--   reduced_listed                      each refusal under its condition and no other
use Rattle.std.specs.Prelude.{◌≡◌, Bool, List, [], ◌∷◌, ◌++◌, ℕ, zero, suc, ◌≤◌, length, take}
use Rattle.std.proofs.Common.{arith}
use Rattle.definitions.specs.Residues.{LeastCofactors}
use Rattle.definitions.specs.Polynomials.{coef, deg, L}
use Rattle.definitions.specs.Resultants.{Combination, Reduced}
use Rattle.refusals.specs.Refusals.{Width, Tested, short, first_refusal, refusals_of_pair, left}
pub use Rattle.answers.specs.Cofactors.{HoldsCofactor}
use Rattle.refusals.specs.Conditions.{Listed, conditions_of_pair, modulus_fails, length_fails, words_fail, short_fails}

-- 1, 2, 3, 6 of u before 6 of v, and 7; lu, lv and l are the lengths of the buffers
abbrev pub reduced_refusals : Width → ℕ → List ℕ → List ℕ → ℕ → ℕ → ℕ → List Tested
reduced_refusals W n f g lu lv l =
    refusals_of_pair W n f g
    ++ ((6, short lu (L n (deg f) (deg g))) ∷ (6, short lv (L n (deg f) (deg g))) ∷ (7, short l W.working) ∷ [])

abbrev pub reduced_status : Width → ℕ → List ℕ → List ℕ → ℕ → ℕ → ℕ → ℕ
reduced_status W n f g lu lv l = first_refusal (reduced_refusals W n f g lu lv l)

-- "For two polynomials of sent degree 0 the cofactors of D follow the same rule, first cofactor first." (02, W7)
pub record LeastConstants (n : ℕ) (f g u v : List ℕ) (D : ℕ) : Type 0 where
  pub pair : deg f ≡ 0 → deg g ≡ 0 → LeastCofactors n (coef f 0) (coef g 0) D (coef u 0) (coef v 0)

-- "The returned cofactors combine f and g to D modulo n."
pub record HoldsReduced (n : ℕ) (f g u u' v v' : List ℕ) (D : ℕ) : Type 0 where
  pub reduced : Reduced n f g D
  pub first : HoldsCofactor n (L n (deg f) (deg g)) u u'
  pub second : HoldsCofactor n (L n (deg f) (deg g)) v v'
  pub combination : Combination n f g (take (L n (deg f) (deg g)) u') (take (L n (deg f) (deg g)) v') D
  pub least : LeastConstants n f g (take (L n (deg f) (deg g)) u') (take (L n (deg f) (deg g)) v') D

-- "value 0, and every lent buffer is left as found"
pub record Untouched (u u' v v' : List ℕ) (value : ℕ) : Type 0 where
  pub nothing : value ≡ 0
  pub first : u' ≡ u
  pub second : v' ≡ v

-- an answer, or a refusal
abbrev pub ReducedLeft : ℕ → ℕ → List ℕ → List ℕ → List ℕ → List ℕ → List ℕ → List ℕ → ℕ → Type 0
ReducedLeft zero n f g u u' v v' value = HoldsReduced n f g u u' v v' value
ReducedLeft (suc s) n f g u u' v v' value = Untouched u u' v v' value

pub record ReducedAnswer (W : Width) (n : ℕ) (f g u u' v v' work work' : List ℕ) (value status : ℕ) : Type 0 where
  pub status_is : status ≡ reduced_status W n f g (length u) (length v) (length work)
  pub result : ReducedLeft status n f g u u' v v' value
  pub work_is : work' ≡ left status work

-- the conditions of an answer: so `status_zero` and `status_is` (refusals/Conditions) say when the status is 0, and when it is k
abbrev pub reduced_conditions : Width → ℕ → List ℕ → List ℕ → ℕ → ℕ → ℕ → List (Type 0)
reduced_conditions W n f g lu lv l =
    conditions_of_pair W n f g ++ ((L n (deg f) (deg g) ≤ lu) ∷ (L n (deg f) (deg g) ≤ lv) ∷ (W.working ≤ l) ∷ [])

pub reduced_listed : (W : Width) (n : ℕ) (f g : List ℕ) (lu lv l : ℕ)
    → Listed (reduced_refusals W n f g lu lv l) (reduced_conditions W n f g lu lv l)
reduced_listed W n f g lu lv l =
    let m = L n (deg f) (deg g) in (
      (omega arith, modulus_fails W n),
      (
        (omega arith, length_fails f),
        (
          (omega arith, length_fails g),
          (
            (omega arith, words_fail n f),
            (
              (omega arith, words_fail n g),
              ((omega arith, short_fails lu m), ((omega arith, short_fails lv m), ((omega arith, short_fails l W.working), tt))),
            ),
          ),
        ),
      ),
    )
