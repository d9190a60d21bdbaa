-- The answers of the clearing and of a stage, taken apart by the arm that the code is in.
--
--   done_at, parts_at       of the clearing: the stage ends
--   next-…                  of the clearing: the division stage goes on, and what its answer comes to
--   nexts, stages           the rules, the latter with those of both widths
use mathlib.Core.Path.{◌≡◌, sym, subst}
use mathlib.Core.List.{List}
use Prim.Native.Nat.{ℕ, ◌+◌, ◌*◌, ◌/◌, ◌≤◌, ◌<◌}
use borrow.Author.Rules.{rules}
use Rattle.std.specs.Prelude.{Result, Ok, Err}
use Rattle.windows.specs.Window.{Kept}
use Rattle.residue.specs.declared.Split.{Split}
use Rattle.reduced_units.specs.States.{StageAt, Splitter, UnitCleared}
use Rattle.reduced_units.specs.declared.Places.{Places}
use Rattle.reduced_clearing.specs.declared.Clearing.{Clearing}
use Rattle.reduced_clearing.specs.declared.Clearing.TheVariants.{Done, Parts, Next}
use Rattle.reduced_clearing.specs.Clearings.{Clears}
use Rattle.reduced_stages.specs.StageAnswers.{ContentFits, times_content, DivisionAsked, StageAnswer}
use Rattle.reduced_stages.proofs.Steps.{steps}
use Rattle.reduced_stages.proofs.Endings.{cleared_falls, cleared_asked, cleared_splitter, product_most, cleared_solved, endings}

module _ (n ν a : ℕ) (p : Places) (w w₁ : List ℕ) (r : Clearing ℕ) (x : Clears n ν p a w w₁ r) where
  pub done_at : (D : ℕ) → r ≡ Done D → StageAnswer n ν p a a w w₁ (Ok D)
  done_at D e = subst (Clears n ν p a w w₁) e x

  pub parts_at : (f g : ℕ) → r ≡ Parts f g → Splitter ν f g
  parts_at f g e = subst (Clears n ν p a w w₁) e x

  module _ {c s l : ℕ} (e : r ≡ Next c s l) where
    cleared : UnitCleared n ν p.t p.pa a p.pb p.al p.be c s l w w₁
    cleared = subst (Clears n ν p a w w₁) e x

    pub next_positive : 1 ≤ c
    next_positive = cleared.positive

    pub next_falls : {m : ℕ} → 4 * (a + ν) ≡ m → 4 * (s + ν / c) + 3 < m
    next_falls = cleared_falls cleared

    pub next_asked : {n' ν' a' s' i' l' : ℕ} {p' : Places} {v : List ℕ} → n' ≡ n → ν' ≡ ν / c → p' ≡ p → a' ≡ a → s' ≡ s → i' ≡ 1
        → l' ≡ l → v ≡ w₁ → DivisionAsked n' ν' p' a' s' i' l' v
    next_asked en eν ep ea es ei el ev = rw (en, eν, ep, ea, es, ei, el, ev) (cleared_asked p cleared)

    module _ (w' : List ℕ) (q : Result ℕ (Split ℕ)) (y : StageAnswer n (ν / c) p a (s + 1) w₁ w' q) where
      pub next_fits : ContentFits ν c q
      next_fits = record { most = λ D h. product_most cleared (subst (StageAnswer n (ν / c) p a (s + 1) w₁ w') h y) }

      pub next_answer : (k : ℕ) (q' : Result ℕ (Split ℕ)) → q' ≡ times_content c q → StageAt n ν p a a k w → Kept (p.t + 1) w w₁
          → StageAnswer n ν p a a w w' q'
      next_answer k q' h st kept = subst (StageAnswer n ν p a a w w') (sym h) (answer_of q y)
        where
          answer_of : (q : Result ℕ (Split ℕ)) → StageAnswer n (ν / c) p a (s + 1) w₁ w' q → StageAnswer n ν p a a w w' (times_content c q)
          answer_of (Ok D) z = cleared_solved cleared z st kept
          answer_of (Err p) z = cleared_splitter cleared z

pub ruleset nexts = (next_positive, next_falls, next_asked, next_answer)

pub ruleset stages = (rules, steps, endings, done_at, parts_at, nexts)
