-- What the operations answer, of words that stand for themselves.
--
--   answers    the rules
use mathlib.Core.Path.{◌≡◌, refl, sym, subst}
use Prim.Native.Nat.{ℕ, ◌%◌, ◌≤◌, ◌<◌}
use native.Mathlib.Nat.{mod-lt}
use borrow.Author.Rules.{rules}
use Rattle.modulus.proofs.Valuing.{plain_answers}

pub answer_below : (n r y : ℕ) → 1 ≤ n → r ≡ y % n → r < n
answer_below n r y l e = subst (λ (z : ℕ). z < n) (sym e) (mod-lt y l)

pub ruleset answers = (rules, refl, answer_below, plain_answers)
