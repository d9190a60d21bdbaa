-- The degrees and the words of a product, as the code has them.
--
--   degrees_over, degrees_within     the test of the sum of the degrees
--   product_length, product_words    the length of the product
--   products                         the words of the product
use mathlib.Core.Path.{◌≡◌, ap, subst, ◌∙◌}
use mathlib.Core.Bool.{true, false}
use mathlib.Core.List.{List}
use Prim.Native.Nat.{ℕ, suc, ◌+◌, ◌-◌, ◌%◌, ◌≤◌, ◌<◌}
use native.Mathlib.Numerals.{add-one}
use borrow.Author.Tests.{lt-ltb, le-ltb}
use lib.Dec.{ltb}
use lib.ListN.{length}
use Rattle.definitions.specs.Polynomials.{coef, deg, convolve, product}
use Rattle.law_polynomials.specs.Words.{length_tabulate}
use Rattle.refusals.proofs.Degrees.{degrees_are}

-- the sum of the degrees, and the length of the product, as the code has them
pub degrees_over : (f g : List ℕ) → 48 < length f - 1 + (length g - 1) → ltb 48 (deg f + deg g) ≡ true
degrees_over f g h = lt-ltb 48 (deg f + deg g) (subst (λ (x : ℕ). 48 < x) (degrees_are f g) h)

pub degrees_within : (f g : List ℕ) → length f - 1 + (length g - 1) ≤ 48 → ltb 48 (deg f + deg g) ≡ false
degrees_within f g h = le-ltb 48 (deg f + deg g) (subst (λ (x : ℕ). x ≤ 48) (degrees_are f g) h)

pub product_length : (f g : List ℕ) → length f - 1 + (length g - 1) + 1 ≡ suc (deg f + deg g)
product_length f g = add-one (length f - 1 + (length g - 1)) ∙ ap suc (degrees_are f g)

pub product_words : (n : ℕ) (f g : List ℕ) → length (product n f g) ≡ suc (deg f + deg g)
product_words n f g = length_tabulate (suc (deg f + deg g)) (λ (k : ℕ). convolve (coef f) (coef g) k % n)

-- word k of the product
abbrev pub products : ℕ → List ℕ → List ℕ → ℕ → ℕ
products n f g k = convolve (coef f) (coef g) k % n
