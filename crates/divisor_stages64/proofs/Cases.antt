-- The clearing of a content, with the record of a modulus of this width, taken apart by the arm that the code is in.
--
--   done_at, parts_at, known_at, falls_at, asked_at    of the clearing of a content
--   within_at, value_at, split_at                      of the stage after it
--   stages                                             the rules
use mathlib.Core.Path.{◌≡◌, subst}
use mathlib.Core.List.{List}
use Prim.Native.Nat.{ℕ, ◌+◌, ◌*◌, ◌/◌, ◌≤◌, ◌<◌}
use borrow.Author.Rules.{rules}
use Rattle.std.specs.Prelude.{Result, Ok, Err}
use Rattle.definitions.specs.Resultants.{Reduced}
use Rattle.windows.specs.Window.{piece}
use Rattle.reduction64.specs.declared.Reciprocal.{Reciprocal}
use Rattle.reduction64.specs.Moduli.{Ready}
use Rattle.reduced_units.specs.States.{Splitter}
use Rattle.residue.specs.declared.Split.{Split}
use Rattle.divisor_stages.specs.declared.Clearing.{Clearing}
use Rattle.divisor_stages.specs.declared.Clearing.TheVariants.{Done, Parts, Next}
use Rattle.divisor_stages.specs.DivisorStages.{DivisionAsked, Cleared, DivisorOrSplit}
use Rattle.divisor_stages.proofs.Divisions.{cleared_falls, cleared_within, cleared_splitter, divisions}
use Rattle.divisor_stages64.specs.DivisorStages.{Clears}

module _ (n a d b s : ℕ) (w w' : List ℕ) (r : Clearing ℕ Reciprocal) (p : Clears n a d b s w w' r) where
  pub done_at : (D : ℕ) → r ≡ Done D → Reduced n (piece w a (d + 1)) (piece w b d) D
  done_at D e = subst (Clears n a d b s w w') e p

  pub parts_at : (x y : ℕ) → r ≡ Parts x y → Splitter n x y
  parts_at x y e = subst (Clears n a d b s w w') e p

  module _ (c : ℕ) (v : Reciprocal) (k i : ℕ) (e : r ≡ Next c v k i) where
    next : (Ready v) × (Cleared n a d b c v.n k i s w w')
    next = subst (Clears n a d b s w w') e p

    pub known_at : Ready v
    known_at = next.0

    pub falls_at : (t : ℕ) → 2 * d ≡ t → 2 * k + 1 < t
    falls_at = cleared_falls next.1

    pub asked_at : {n' a' d' b' k' i' s' : ℕ} {w₁ : List ℕ} → n' ≡ v.n → a' ≡ a → d' ≡ d → b' ≡ b → k' ≡ k → i' ≡ i → s' ≡ s → w₁ ≡ w'
        → DivisionAsked n' a' d' b' k' i' s' w₁
    asked_at e₁ e₂ e₃ e₄ e₅ e₆ e₇ e₈ = rw (e₁, e₂, e₃, e₄, e₅, e₆, e₇, e₈) next.1.asked

    module _ (q : Result ℕ (Split ℕ)) (x : DivisorOrSplit v.n (piece w' a (d + 1)) (piece w' b (k + 1)) q) where
      answer : (z : Result ℕ (Split ℕ)) → q ≡ z → DivisorOrSplit v.n (piece w' a (d + 1)) (piece w' b (k + 1)) z
      answer z o = subst (DivisorOrSplit v.n (piece w' a (d + 1)) (piece w' b (k + 1))) o x

      pub within_at : (D : ℕ) → q ≡ Ok D → c * D ≤ n
      within_at D o = cleared_within next.1 (answer (Ok D) o)

      pub value_at : (D z : ℕ) → q ≡ Ok D → z ≡ c * D → Reduced n (piece w a (d + 1)) (piece w b d) z
      value_at D z o e = rw e (next.1.constants D (answer (Ok D) o))

      pub split_at : (s : Split ℕ) → q ≡ Err s → Splitter n s.p s.q
      split_at s o = cleared_splitter next.1 (answer (Err s) o)

pub ruleset stages = (rules, divisions, done_at, parts_at, known_at, falls_at, asked_at, within_at, value_at, split_at)
