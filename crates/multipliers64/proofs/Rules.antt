-- The rules of the proofs of this crate: `search rules` finds them by the facts that the code provides.
--
--   no_fraction, some_fraction, known_fraction    the fraction of a multiplier, where n is below 2^63
--   residue_most, sum_three     a residue; the sum of three residues
--   rules                       the rules, with those of residues and their sums of `reduction64`
use mathlib.Core.Path.{◌≡◌}
use Prim.Native.Nat.{ℕ, ◌+◌, ◌%◌, ◌^◌, ◌<◌, ◌≤◌}
use native.Mathlib.Nat.{mod-lt, le_of_lt}
use native.Mathlib.Omega.{arith}
use borrow.Author.Rules.{rules}
use Rattle.law_words.specs.Fractions.{Fraction}
use Rattle.reduction.proofs.Reciprocals.{modulo}
use Rattle.reduction64.specs.Moduli.{Ready}
use Rattle.reduction64.specs.declared.Reciprocal.{Reciprocal}
use Rattle.reduction64.proofs.Rules.{residue_below, sum_residues}
use Rattle.multipliers64.specs.Multipliers.{HasFraction, open_fraction, shut}

pub no_fraction : (n c w : ℕ) → 9223372036854775808 ≤ n → HasFraction n c w
no_fraction n c w l = shut (λ h. absurd (omega arith))

pub some_fraction : (n c w : ℕ) → Fraction (2 ^ 64) n c w → HasFraction n c w
some_fraction n c w f = shut (λ _. f)

pub known_fraction : (n c w : ℕ) → HasFraction n c w → n < 9223372036854775808 → Fraction (2 ^ 64) n c w
known_fraction n c w f l = open_fraction f (omega arith)

pub residue_most : {m : Reciprocal} (x y : ℕ) → Ready m → y ≡ x % m.n → y ≤ m.n
residue_most x y ready e = le_of_lt (residue_below x y ready e)

pub sum_three : {m : Reciprocal} (a b c x y s z r : ℕ) → Ready m → r ≡ (s + z) % m.n → s ≡ (x + y) % m.n → x ≡ a % m.n → y ≡ b % m.n
    → z ≡ c % m.n → r ≡ (a + b + c) % m.n
sum_three a b c x y s z r ready er es ex ey ez = sum_residues (a + b) c s z r ready er (sum_residues a b x y s ready es ex ey) ez

pub ruleset multiplier_rules = (rules, modulo, no_fraction, some_fraction, known_fraction, residue_below, residue_most, sum_residues, sum_three)
