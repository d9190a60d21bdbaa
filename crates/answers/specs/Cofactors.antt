-- A cofactor in the first words of a lent buffer, modulo n and for words of any width.
--
--   HoldsCofactor    the buffer after an answer
--   held             the buffer whose first words were lent as a part, and came back
use Rattle.std.specs.Prelude.{◌≡◌, List, ◌++◌, ℕ, ◌≤◌, length, take, drop}
use Rattle.std.proofs.Common.{sym, ap, subst, ◌∙◌, arith, length-take-le, take_at, drop_at}
use Rattle.std.proofs.Math.Seq.{length_front}
use borrow.Rule.Slice.PartMut.{post_of}
use Rattle.definitions.specs.Polynomials.{Residues}

-- S43, S25: "Each cofactor buffer must have L words or more; the first L hold the cofactor, zeros above it, the rest unchanged.": l words
-- of it
pub record HoldsCofactor (n l : ℕ) (b b' : List ℕ) : Type 0 where
  pub same : length b' ≡ length b
  pub residues : Residues n (take l b')
  pub beyond : drop l b' ≡ drop l b

-- m words of b were lent, and came back as x
pub held : (n m l : ℕ) (b x : List ℕ) → m ≡ l → l ≤ length b → length x ≡ l → Residues n x
    → HoldsCofactor n l b (x ++ post_of 0 m b) × (take l (x ++ post_of 0 m b) ≡ x)
held n m l b x em fits lx r = (
  record {
    same = length_front b x m (lx ∙ sym em ∙ sym (length-take-le m b (omega arith)));
    residues = subst (Residues n) (sym (take_at x (post_of 0 m b) l lx)) r;
    beyond = drop_at x (post_of 0 m b) l lx ∙ ap (λ (i : ℕ). drop i b) em;
  },
  take_at x (post_of 0 m b) l lx,
)
