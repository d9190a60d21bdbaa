-- The pairs of a batch, one after the other.
--
--   reduced_of     D of the words of a pair is D of its pieces
--   pairs_next     one pair more
--   again          two runs on the working words
use mathlib.Core.Path.{◌≡◌, sym, subst, ◌∙◌}
use mathlib.Core.List.{List}
use Prim.Native.Nat.{ℕ, ◌+◌, ◌-◌, ◌*◌, ◌≤◌, ◌<◌}
use native.Mathlib.Omega.{arith}
use lib.ListN.{length, set, length-set}
use lib.Seq.{get_or-set_same, get_or-set_other}
use borrow.Author.Count.{below_more}
use borrow.Rule.Slice.PartMut.{mid_of}
use Rattle.definitions.specs.Resultants.{Reduced}
use Rattle.definitions.specs.Polynomials.{coef}
use Rattle.windows.specs.Window.{Scratch}
use Rattle.batch_pairs.specs.Batches.{piece, Pairs}
use Rattle.batch_pairs.proofs.PairRounds.{of_pieces}

pub reduced_of : (n i d e r : ℕ) (f g : List ℕ)
    → Reduced n (mid_of (i * (d + 1)) (i * (d + 1) + (d + 1) - i * (d + 1)) f)
    (mid_of (i * (e + 1)) (i * (e + 1) + (e + 1) - i * (e + 1)) g) r
    → Reduced n (piece d i f) (piece e i g) r
reduced_of n i d e r f g h = of_pieces (Reduced n) i d e r f g h

pub pairs_next : {P : List ℕ → List ℕ → ℕ → Type 0} {d e i count v : ℕ} {f g out₀ out : List ℕ} → Pairs P f d g e i out₀ out → i < count
    → count ≤ length out₀ → P (piece d i f) (piece e i g) v → Pairs P f d g e (i + 1) out₀ (set out i v)
pairs_next {P} {d} {e} {i} {count} {v} {f} {g} {out₀} {out} s l inside p = record {
  same = length-set out i v ∙ s.same;
  each = below_more (λ (k : ℕ). P (piece d k f) (piece e k g) (coef (set out i v) k)) i
      (λ k h. subst (P (piece d k f) (piece e k g)) (sym (get_or-set_other out i k v 0 (omega arith))) (s.each k h))
      (subst (P (piece d i f) (piece e i g)) (sym (get_or-set_same out i v 0 (omega (arith, s.same, inside)))) p);
  beyond = λ k h. get_or-set_other out i k v 0 (omega arith) ∙ s.beyond k (omega arith);
}

pub again : {w w' w'' : List ℕ} → Scratch w w' → Scratch w' w'' → Scratch w w''
again s t = record { same = t.same ∙ s.same }
