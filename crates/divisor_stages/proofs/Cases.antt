-- The answers, taken apart by the arm that the code is in.
--
--   place_at                                              of the highest coefficient that is no nilpotent
--   lead_at, lead_splits_at, lead_nilpotents_at, next_at  of a polynomial that gets a leading unit
--   done_at, parts_at, known_at, falls_at, asked_at    of the clearing of a content
--   within_at, value_at, split_at                              of the stage after it
--   leadings, clearings, stages                     the rules
use mathlib.Core.Path.{◌≡◌, subst}
use mathlib.Core.List.{List}
use Prim.Native.Nat.{ℕ, ◌+◌, ◌*◌, ◌/◌, ◌≤◌, ◌<◌}
use borrow.Author.Rules.{rules}
use mir.Syntax.{Width}
use mir.Val.{Fits}
use Rattle.std.specs.Prelude.{Result, Ok, Err}
use Rattle.definitions.specs.Resultants.{Reduced}
use Rattle.windows.specs.Window.{piece, Content}
use Rattle.modulus.specs.declared.Modulus.{Modulus}
use Rattle.modulus.specs.Values.{Known}
use Rattle.reduced_units.specs.States.{Splitter}
use Rattle.residue.specs.declared.Split.{Split}
use Rattle.window_factor.specs.declared.Highest.{Highest}
use Rattle.window_factor.specs.declared.Highest.TheVariants.{UnitAt as UnitAt', Splits as SplitsAt, AllNilpotent}
use Rattle.window_factor.specs.Factors.{HighestOf, SplitOf, AllNilpotents}
use Rattle.window_factor.proofs.Cases.{unit_at, highest}
use Rattle.divisor_stages.specs.declared.Clearing.{Clearing}
use Rattle.divisor_stages.specs.declared.Clearing.TheVariants.{Done, Parts, Next}
use Rattle.divisor_stages.specs.LeadingUnits.{LeadAsked, Leading, LeadAnswer}
use Rattle.divisor_stages.specs.DivisorStages.{ContentAsked, ContentTaken, DivisionAsked, Cleared, Clears, DivisorOrSplit}
use Rattle.divisor_stages.proofs.Factors.{part_of, place_fits, factors}
use Rattle.divisor_stages.proofs.Contents.{content_cleared, contents}
use Rattle.divisor_stages.proofs.Divisions.{cleared_falls, cleared_within, cleared_splitter, divisions}

pub place_at : {n b m s : ℕ} {w : List ℕ} {W : Width} (h : Highest ℕ) (t i : ℕ) → LeadAsked n b m s w → HighestOf n (part_of b m w) h
    → h ≡ UnitAt' t i → Fits W m → Fits W (t + 1)
place_at {n} {b} {m} {s} {w} h t i a p e = place_fits a (unit_at n (part_of b m w) h p t i e)

module _ (n b m s : ℕ) (w w' : List ℕ) (h : Highest ℕ) (p : LeadAnswer n b m s w w' h) where
  pub lead_at : (t i : ℕ) → h ≡ UnitAt' t i → Leading n b m t i s w w'
  lead_at t i e = subst (LeadAnswer n b m s w w') e p

  pub lead_splits_at : (x y : ℕ) → h ≡ SplitsAt x y → SplitOf n x y
  lead_splits_at x y e = subst (LeadAnswer n b m s w w') e p

  pub lead_nilpotents_at : h ≡ AllNilpotent → AllNilpotents n (piece w b m)
  lead_nilpotents_at e = subst (LeadAnswer n b m s w w') e p

module _ {n a d b s c : ℕ} {w w₁ w₂ : List ℕ} (h : Highest ℕ) (st : ContentAsked n a d b s w) (ct : Content n (part_of b d w) c)
    (ne : c ≡ n → ⊥) (v : ℕ) (tk : ContentTaken v c a d b w w₁) (is : v ≡ n / c) (p : LeadAnswer v b d s w₁ w₂ h) where
  pub next_at : {c' v' : ℕ} {w₃ : List ℕ} (k i : ℕ) → h ≡ UnitAt' k i → c' ≡ c → v' ≡ v → w₃ ≡ w₂ → Cleared n a d b c' v' k i s w w₃
  next_at k i e o r q = rw (o, r, q) (content_cleared st ct ne tk is (lead_at v b d s w₁ w₂ h p k i e))

module _ (n a d b s : ℕ) (w w' : List ℕ) (r : Clearing ℕ Modulus) (p : Clears n a d b s w w' r) where
  pub done_at : (D : ℕ) → r ≡ Done D → Reduced n (piece w a (d + 1)) (piece w b d) D
  done_at D e = subst (Clears n a d b s w w') e p

  pub parts_at : (x y : ℕ) → r ≡ Parts x y → Splitter n x y
  parts_at x y e = subst (Clears n a d b s w w') e p

  module _ (c : ℕ) (v : Modulus) (k i : ℕ) (e : r ≡ Next c v k i) where
    next : (Known v) × (Cleared n a d b c v.n k i s w w')
    next = subst (Clears n a d b s w w') e p

    pub known_at : Known v
    known_at = next.0

    pub falls_at : (t : ℕ) → 2 * d ≡ t → 2 * k + 1 < t
    falls_at = cleared_falls next.1

    pub asked_at : {n' a' d' b' k' i' s' : ℕ} {w₁ : List ℕ} → n' ≡ v.n → a' ≡ a → d' ≡ d → b' ≡ b → k' ≡ k → i' ≡ i → s' ≡ s → w₁ ≡ w'
        → DivisionAsked n' a' d' b' k' i' s' w₁
    asked_at e₁ e₂ e₃ e₄ e₅ e₆ e₇ e₈ = rw (e₁, e₂, e₃, e₄, e₅, e₆, e₇, e₈) next.1.asked

    module _ (q : Result ℕ (Split ℕ)) (x : DivisorOrSplit v.n (piece w' a (d + 1)) (piece w' b (k + 1)) q) where
      answer : (z : Result ℕ (Split ℕ)) → q ≡ z → DivisorOrSplit v.n (piece w' a (d + 1)) (piece w' b (k + 1)) z
      answer z o = subst (DivisorOrSplit v.n (piece w' a (d + 1)) (piece w' b (k + 1))) o x

      pub within_at : (D : ℕ) → q ≡ Ok D → c * D ≤ n
      within_at D o = cleared_within next.1 (answer (Ok D) o)

      pub value_at : (D z : ℕ) → q ≡ Ok D → z ≡ c * D → Reduced n (piece w a (d + 1)) (piece w b d) z
      value_at D z o e = rw e (next.1.constants D (answer (Ok D) o))

      pub split_at : (s : Split ℕ) → q ≡ Err s → Splitter n s.p s.q
      split_at s o = cleared_splitter next.1 (answer (Err s) o)

pub ruleset leadings = (factors, highest, place_at)

pub ruleset clearings = (rules, contents, next_at, lead_splits_at, lead_nilpotents_at)

pub ruleset stages = (rules, divisions, done_at, parts_at, known_at, falls_at, asked_at, within_at, value_at, split_at)
