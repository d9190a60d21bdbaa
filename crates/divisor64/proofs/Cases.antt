-- The answers of an attempt and of the test, taken apart by the arm that the code is in: what this width asks of a run.
--
--   first_factor_at, second_factor_at    of an attempt
--   coprime_at                           of the test
--   attempts, recorded, factors          the rules
use mathlib.Core.Bool.{Bool, true}
use mathlib.Core.Path.{◌≡◌, subst}
use mathlib.Core.List.{List}
use Prim.Native.Nat.{ℕ}
use borrow.Author.Rules.{rules}
use Rattle.std.specs.Prelude.{Result, Err}
use Rattle.definitions.specs.Resultants.{Reduced}
use Rattle.windows.specs.Window.{Scratch}
use Rattle.residue.specs.declared.Split.{Split}
use Rattle.divisor.specs.DivisorAttempts.{Attempted}
use Rattle.divisor.proofs.Halves.{rounds}
use Rattle.divisor.proofs.Cases.{found_at, by_record, factors_at}
use Rattle.divisor64.specs.CoprimeAttempted.{DivisorAsked, CoprimeAttempted}
use Rattle.divisor64.proofs.ShownByResultant.{first_factor, second_factor, asked_by}

module _ {n : ℕ} {f g w w₁ : List ℕ} (r : Result ℕ (Split ℕ)) (a : DivisorAsked n f g w) (h : Scratch w w₁) (p : Attempted n f g r)
    (s : Split ℕ) (e : r ≡ Err s) where
  pub first_factor_at : DivisorAsked s.p f g w₁
  first_factor_at = first_factor a (factors_at n f g r p s e) h

  pub second_factor_at : {y' : ℕ} {f' g' w₂ w₃ : List ℕ} → Scratch w₁ w₂ → y' ≡ s.q → f' ≡ f → g' ≡ g → w₃ ≡ w₂
      → DivisorAsked y' f' g' w₃
  second_factor_at i e₁ e₂ e₃ e₄ = rw (e₁, e₂, e₃, e₄) (second_factor a (factors_at n f g r p s e) h i)

pub coprime_at : (n : ℕ) (f g : List ℕ) (b : Bool) → CoprimeAttempted n f g b → b ≡ true → Reduced n f g 1
coprime_at n f g b p e = subst (CoprimeAttempted n f g) e p

pub ruleset attempts = (rounds, found_at, coprime_at)

pub ruleset factors = (first_factor_at, second_factor_at)

pub ruleset recorded = (rules, by_record, asked_by)
