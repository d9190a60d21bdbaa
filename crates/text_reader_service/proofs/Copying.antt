-- Words put into a buffer.
--
--   Copied     the invariant of `put_words`
--   copies     the rules
use mathlib.Core.Path.{◌≡◌, refl, sym, ap, ◌∙◌}
use mathlib.Core.List.{List, ◌++◌}
use Prim.Native.Nat.{ℕ, ◌+◌, ◌≤◌, ◌<◌}
use native.Mathlib.Numerals.{add-one}
use native.Mathlib.Omega.{arith}
use borrow.Author.Rules.{rules}
use lib.ListN.{length, get_or, take, drop, set}
use lib.Seq.{take-suc}
use Rattle.text_writer_service.specs.Parts.{Put}
use Rattle.text_writer_service.proofs.Putting.{put_none, put_as, put_length, put_set}

-- the first i words of f stand at the front of w
pub record Copied (f : List ℕ) (count : ℕ) (w₀ w : List ℕ) (i : ℕ) : Type 0 where
  pub most : i ≤ count
  pub same : length w ≡ length w₀
  pub put : Put (take i f) 0 i w₀ w

pub copied_none : (f : List ℕ) (count : ℕ) (w : List ℕ) → Copied f count w w 0
copied_none f count w = record { most = omega arith; same = refl; put = put_none 0 w }

module _ {f : List ℕ} {count i : ℕ} {w₀ w : List ℕ} (p : Copied f count w₀ w i) where
  pub copied_next : {i' : ℕ} {w' : List ℕ} → count ≤ length f → count ≤ length w₀ → i < count → w' ≡ set w i (get_or f i 0) → i' ≡ i + 1
      → Copied f count w₀ w' i'
  copied_next fit room l ew ei =
      let q = put_as (sym (take-suc f i 0 (omega arith)) ∙ ap (λ (k : ℕ). take k f) (sym (add-one i)))
      (put_set p.put (omega arith) (get_or f i 0) refl (omega arith)) in
      rw (ew, ei) (record { most = omega arith; same = put_length q (omega arith); put = q })

  pub copied_end : count ≤ i → w ≡ take count f ++ drop count w₀
  copied_end h = let e : i ≡ count = omega (arith, p.most) in p.put.is ∙ ap (λ (k : ℕ). take k f ++ drop k w₀) e

pub ruleset copies = (rules, copied_none, copied_next, copied_end)
