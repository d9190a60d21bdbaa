-- THE LAW of how far the resultant r and the reduced resultant D can differ (S62); its halves stand in specs/Powers.
--
--   between_first        THE LAW, where the top word of f is a unit
--   between_second       THE LAW, where the top word of g is one
use Rattle.std.specs.Prelude.{List, ℕ, ◌≤◌}
use Rattle.definitions.specs.Polynomials.{coef, deg}
use Rattle.definitions.specs.Residues.{IsUnit}
use Rattle.definitions.specs.Resultants.{resultant, Reduced}
use Rattle.law_polynomials.specs.Powers.{Between, divides_first, power_first, swapped_dvd}
use Rattle.law_polynomials.specs.ReducedLaws.{reduced_flip}

-- THE LAW, the top word of f a unit
pub between_first : (n : ℕ) → 1 ≤ n → (f g : List ℕ) (D : ℕ) → IsUnit n (coef f (deg f)) → Reduced n f g D
    → Between n (deg f) (resultant n f g) D
between_first n l f g D p r = record {
  divides = divides_first n l f g D p r;
  power = λ h q. power_first n l f g D p r h q.left q.right;
}

-- THE LAW, the top word of g a unit
pub between_second : (n : ℕ) → 1 ≤ n → (f g : List ℕ) (D : ℕ) → IsUnit n (coef g (deg g)) → Reduced n f g D
    → Between n (deg g) (resultant n f g) D
between_second n l f g D p r =
    let R = reduced_flip n l f g D r in
    record {
      divides = swapped_dvd n D g f l r.divides (divides_first n l g f D p R);
      power = λ h q. power_first n l g f D p R h (swapped_dvd n h f g l q.right q.left) q.right;
    }
