-- The kind of a residue as the test of `nilpotent`, taken apart by the arm that the code is in.
--
--   unit_no, nilpotent_yes, splits_no    a unit and a residue that splits n are not nilpotent
--   testing                              the rules
use mathlib.Core.Path.{◌≡◌, sym, subst}
use mathlib.Core.Bool.{true, false}
use Prim.Native.Nat.{ℕ, ◌≤◌}
use native.Mathlib.Omega.{arith}
use borrow.Author.Rules.{rules}
use Rattle.law_numbers.specs.Kinds.{unit_not_nilpotent, nilpotent_not_splitting}
use Rattle.residue.specs.declared.Kind.{Kind}
use Rattle.residue.specs.declared.Kind.TheVariants.{Unit as Unit', Nilpotent, Splits as Splits'}
use Rattle.residue.specs.Kinds.{KindOf}
use Rattle.law_polynomial_tests.specs.UnitTests.{is_nilpotent, no_test, test_nilpotent, nilpotent_test}

module _ (n a : ℕ) (r : Kind ℕ) (p : KindOf n a r) where
  pub unit_no : (i : ℕ) → r ≡ Unit' i → 2 ≤ n → false ≡ is_nilpotent n a
  unit_no i e l =
      sym (no_test _ (λ t. unit_not_nilpotent l (record { inverse = i; is = subst (KindOf n a) e p }) (test_nilpotent t)))

  pub nilpotent_yes : r ≡ Nilpotent → 2 ≤ n → true ≡ is_nilpotent n a
  nilpotent_yes e l = sym (nilpotent_test (omega arith) (subst (KindOf n a) e p))

  pub splits_no : (x y : ℕ) → r ≡ Splits' x y → false ≡ is_nilpotent n a
  splits_no x y e = sym (no_test _ (λ t. nilpotent_not_splitting (test_nilpotent t) (subst (KindOf n a) e p)))

pub ruleset testing = (rules, unit_no, nilpotent_yes, splits_no)
