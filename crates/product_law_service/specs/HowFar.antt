-- How far the two numbers that the engine answers can differ (02, W11), over any width W: from nothing but the records that the resultant
-- and the reduced resultant promise. f and g are the polynomials sent, of degrees d and e; r is the resultant, D the reduced resultant.
--
--   HowFar            a unit on top of f: D divides r and gcd(r, n) divides D ^ d; a unit on top of g: the same with e
--   how_far_first, how_far_second, how_far    THE LAW of the answers
--   HowFarAnswer      all that is promised of a call of `how_far`
use Rattle.std.specs.Prelude.{◌≡◌, List, ℕ}
use Rattle.std.proofs.Common.{sym, subst}
use Rattle.definitions.specs.Polynomials.{coef, deg}
use Rattle.definitions.specs.Residues.{IsUnit}
use Rattle.definitions.specs.Resultants.{resultant}
use Rattle.law_polynomials.specs.Powers.{Between}
use Rattle.law_polynomials.proofs.Between.{between_first, between_second}
use Rattle.refusals.specs.Refusals.{Width, answered}
use Rattle.reduced_service.specs.ReducedService.{ReducedAnswer}
use Rattle.product_law_service.specs.LawOfTheAnswers.{AnsweredResultant, AnsweredReduced, answered_modulus}

-- "When the top word of f is a unit, D divides the resultant, and gcd(resultant, n) divides the d-th power of D, where the 0-th power is 1.
-- The same holds with g and e."
pub record HowFar (n : ℕ) (f g : List ℕ) (r D : ℕ) : Type 0 where
  pub first : IsUnit n (coef f (deg f)) → Between n (deg f) r D
  pub second : IsUnit n (coef g (deg g)) → Between n (deg g) r D

-- THE LAW of the answers, the top word of f a unit
pub how_far_first : (W : Width) (n : ℕ) (f g : List ℕ) (r D : ℕ) → AnsweredResultant W n f g r → AnsweredReduced W n f g D
    → IsUnit n (coef f (deg f)) → Between n (deg f) r D
how_far_first W n f g r D a b p =
    subst (λ (x : ℕ). Between n (deg f) x D) (sym a.call.value_is)
    (between_first n (answered_modulus W n f g r a) f g D p b.call.result.reduced)

-- THE LAW of the answers, the top word of g a unit
pub how_far_second : (W : Width) (n : ℕ) (f g : List ℕ) (r D : ℕ) → AnsweredResultant W n f g r → AnsweredReduced W n f g D
    → IsUnit n (coef g (deg g)) → Between n (deg g) r D
how_far_second W n f g r D a b p =
    subst (λ (x : ℕ). Between n (deg g) x D) (sym a.call.value_is)
    (between_second n (answered_modulus W n f g r a) f g D p b.call.result.reduced)

-- both
pub how_far : (W : Width) (n : ℕ) (f g : List ℕ) (r D : ℕ) → AnsweredResultant W n f g r → AnsweredReduced W n f g D → HowFar n f g r D
how_far W n f g r D a b = record { first = how_far_first W n f g r D a b; second = how_far_second W n f g r D a b }

-- Status, D, cofactors and lent words are those of the reduced resultant: refused with its numbers, zeros for r and D and every buffer as
-- found; answered, the working words zero. The resultant refuses nothing more.
pub record HowFarAnswer (W : Width) (n : ℕ) (f g u u' v v' work work' : List ℕ) (r D status : ℕ) : Type 0 where
  pub reduced_is : ReducedAnswer W n f g u u' v v' work work' D status
  pub resultant_is : r ≡ answered status (resultant n f g)
  pub far : status ≡ 0 → HowFar n f g r D
