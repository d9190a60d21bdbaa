-- Polynomials side by side in one buffer, and what a call in a part of it finds there.
--
--   copies_beside, copies_back    two copies, one after the other; copying, their rules
--   beside_below       residues side by side
--   beside_first, beside_second   the polynomials, read in the part that begins at s
--   onward w x         the words of w from x on
--   pair_of            two polynomials side by side, as an attempt wants them
use mathlib.Core.Path.{◌≡◌, refl, sym, ap, subst, ◌∙◌}
use mathlib.Core.List.{List}
use mathlib.Core.Logic.{⊎_elim}
use Prim.Native.Nat.{ℕ, ◌+◌, ◌-◌, ◌≤◌, ◌<◌}
use native.Mathlib.Omega.{arith}
use native.Mathlib.Nat.{zero-add}
use lib.ListN.{length, get_or}
use lib.Seq.{ext_get_or}
use borrow.Author.Rules.{rules}
use borrow.Rule.Slice.PartMut.{mid_of}
use Rattle.definitions.specs.Polynomials.{coef}
use Rattle.windows.specs.Window.{piece, Moved, second, Reversed, Below, Around}
use Rattle.windows.proofs.Leaf.{lt_or_le, piece_at, piece_length}
use Rattle.windows.proofs.Lift.{was, mid_length}
use Rattle.window_division.specs.Remainders.{Pair}
use Rattle.resultant_steps.specs.Layouts.{Beside, words_at, words_back}

-- ---- two runs of words written one after the other

written : (F G : ℕ → ℕ) (l m s : ℕ) (w w₁ w₂ : List ℕ) → Around s l w w₁ → Around (s + l) m w₁ w₂
    → ((k : ℕ) → k < l → get_or w₁ (s + k) 0 ≡ F k) → ((k : ℕ) → k < m → get_or w₂ (s + l + k) 0 ≡ G k)
    → Beside F G l m s w w₂
written F G l m s w w₁ w₂ a b f g = record {
  around = record {
    same = b.same ∙ a.same;
    low = λ k h. b.low k (omega arith) ∙ a.low k h;
    high = λ k h. b.high k (omega arith)
        ∙ a.high k (omega arith);
  };
  first = λ k h. b.low (s + k) (omega arith) ∙ f k h;
  second = g;
}

module _ {a l b m s : ℕ} {w w₁ w₂ : List ℕ} where
  pub copies_beside : Moved second a s l w w₁ → Moved second b (s + l) m w₁ w₂ → a + l ≤ s → b + m ≤ s
      → Beside (words_at w a) (words_at w b) l m s w w₂
  copies_beside x y p q =
      written (words_at w a) (words_at w b) l m s w w₁ w₂ (record { same = x.same; low = x.low; high = x.high })
      (record { same = y.same; low = y.low; high = y.high })
      (λ k h. x.mid k h) (λ k h. y.mid k h ∙ x.low (b + k) (omega arith))

  pub copies_back : Reversed a s l w w₁ → Reversed b (s + l) m w₁ w₂ → a + l ≤ s → b + m ≤ s
      → Beside (words_back w a l) (words_back w b m) l m s w w₂
  copies_back x y p q =
      written (words_back w a l) (words_back w b m) l m s w w₁ w₂ (record { same = x.same; low = x.low; high = x.high })
      (record { same = y.same; low = y.low; high = y.high })
      (λ k h. x.mid k h) (λ k h. y.mid k h ∙ x.low (b + (m - 1 - k)) (omega arith))

pub ruleset copying = (rules, copies_beside, copies_back)

-- ---- the part that begins at s

module _ (F G : ℕ → ℕ) (l m s M : ℕ) (w w' : List ℕ) (bs : Beside F G l m s w w') (fits : s + M ≤ length w') (most : l + m ≤ M) where
  at_first : (k : ℕ) → k < l → get_or (mid_of s M w') k 0 ≡ F k
  at_first k h = was s M w' fits (s + k) k refl (omega arith) ∙ bs.first k h

  at_second : (k : ℕ) → k < m → get_or (mid_of s M w') (l + k) 0 ≡ G k
  at_second k h = was s M w' fits (s + l + k) (l + k) (omega arith) (omega arith) ∙ bs.second k h

  pub beside_below : (n : ℕ) → ((k : ℕ) → k < l → F k < n) → ((k : ℕ) → k < m → G k < n) → Below n 0 (l + m) (mid_of s M w')
  beside_below n f g = record {
    at = λ k h. ⊎_elim (λ b. subst (λ (x : ℕ). x < n) (sym (ap (λ (x : ℕ). get_or (mid_of s M w') x 0) (zero-add k) ∙ at_first k b)) (f k b))
        (λ b. let e : 0 + k ≡ l + (k - l) = omega arith in
        subst (λ (x : ℕ). x < n) (sym (ap (λ (x : ℕ). get_or (mid_of s M w') x 0) e ∙ at_second (k - l) (omega arith)))
        (g (k - l) (omega arith)))
        (lt_or_le k l);
  }

  pub beside_first : (f : List ℕ) → length f ≡ l → ((k : ℕ) → k < l → coef f k ≡ F k) → piece (mid_of s M w') 0 l ≡ f
  beside_first f e h =
      let z : length (piece (mid_of s M w') 0 l) ≡ l = piece_length (mid_of s M w') 0 l (omega (arith, mid_length s M w' fits)) in
      ext_get_or 0 (piece (mid_of s M w') 0 l) f (z ∙ sym e)
      (λ k b. piece_at (mid_of s M w') 0 l k (omega arith) ∙ ap (λ (x : ℕ). get_or (mid_of s M w') x 0) (zero-add k) ∙ at_first k (omega arith)
      ∙ sym (h k (omega arith)))

  pub beside_second : (g : List ℕ) → length g ≡ m → ((k : ℕ) → k < m → coef g k ≡ G k) → piece (mid_of s M w') l m ≡ g
  beside_second g e h =
      let z : length (piece (mid_of s M w') l m) ≡ m = piece_length (mid_of s M w') l m (omega (arith, mid_length s M w' fits)) in
      ext_get_or 0 (piece (mid_of s M w') l m) g (z ∙ sym e)
      (λ k b. piece_at (mid_of s M w') l m k (omega arith) ∙ at_second k (omega arith) ∙ sym (h k (omega arith)))

  -- the last word of the first
  pub beside_lead : (k : ℕ) → k < l → get_or (mid_of s M w') (0 + k) 0 ≡ F k
  beside_lead k h = ap (λ (x : ℕ). get_or (mid_of s M w') x 0) (zero-add k) ∙ at_first k h

-- the words from x on, as a call in that part of the buffer finds them
abbrev pub onward : List ℕ → ℕ → List ℕ
onward w x = mid_of x (length w - x) w

-- ---- as an attempt wants them

pub pair_of : (n d e : ℕ) (w : List ℕ) → Below n 0 (d + 1 + (e + 1)) w → Pair n 0 d (d + 1) e w
pair_of n d e w b = record {
  first = record { at = λ k l. b.at k (omega arith) };
  second = record { at = λ k l. subst (λ (x : ℕ). get_or w x 0 < n) (zero-add (d + 1 + k)) (b.at (d + 1 + k) (omega arith)) };
  apart = record { ok = λ i j p q z. omega arith };
}

-- the same, with the second below the first
pub pair_above : (n d e : ℕ) (w : List ℕ) → Below n 0 (e + 1 + (d + 1)) w → Pair n (e + 1) d 0 e w
pair_above n d e w b = record {
  first = record { at = λ k l. subst (λ (x : ℕ). get_or w x 0 < n) (zero-add (e + 1 + k)) (b.at (e + 1 + k) (omega arith)) };
  second = record { at = λ k l. b.at k (omega arith) };
  apart = record { ok = λ i j p q z. omega arith };
}
