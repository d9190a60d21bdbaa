-- B = U H modulo ν, at any width: B is copied to the room, factored there, and H takes its place.
--
--   split_room, split_given    what the factoring asks
--   split_done                 what comes of it
--   splittings                 the rules
use mathlib.Core.Path.{◌≡◌, refl, sym, ap, ap₂, subst, ◌∙◌}
use mathlib.Core.List.{List}
use mathlib.Core.Logic.{⊎_elim}
use Prim.Native.Nat.{ℕ, zero, suc, ◌+◌, ◌-◌, ◌*◌, ◌%◌, ◌≤◌, ◌<◌}
use native.Mathlib.Omega.{arith}
use native.Mathlib.Nat.{mul_comm, add-zero, add_assoc}
use borrow.Author.Rules.{rules}
use lib.ListN.{length, get_or}
use borrow.Rule.Slice.PartMut.{put_mid, mid_of}
use Rattle.definitions.specs.Residues.{IsNilpotent}
use Rattle.definitions.specs.Polynomials.{coef, Multiplied, UnitPolynomial}
use Rattle.windows.specs.Window.{piece, Moved, second, Below, Around, Apart, Outside}
use Rattle.windows.proofs.Leaf.{lt_or_le, piece_at, piece_over, piece_same, around_at}
use Rattle.windows.proofs.Lift.{moved_around, moved_copy, piece_equal, mid_length, was, piece_mid, window, is_now, piece_put}
use Rattle.window_factor.specs.Factors.{LeadingUnit, Given, Factored}
use Rattle.reduced_units.specs.Factorings.{SplitAsked, UnitSplit, unit_place}

module _ (ν t pb a s i : ℕ) (w w₁ : List ℕ) (asked : SplitAsked ν t pb a s i w) (cp : Moved second pb (8 * (t + 1)) a w w₁) where
  -- the words that are lent
  abbrev m : ℕ
  m = 8 * (t + 1) + 3 * (t + 1) - 8 * (t + 1)

  inside : 8 * (t + 1) + m ≤ length w₁
  inside = omega (arith, cp.same)

  one_more : a - 1 + 1 ≡ a
  one_more = omega arith

  -- what is factored is B
  copied : piece (mid_of (8 * (t + 1)) m w₁) 0 (a - 1 + 1) ≡ piece w pb a
  copied =
      piece_mid (8 * (t + 1)) m w₁ inside 0 (a - 1 + 1) (omega arith)
      ∙ ap₂ (λ (x y : ℕ). piece w₁ x y) (add-zero (8 * (t + 1))) one_more
      ∙ moved_copy (omega arith) (omega arith) cp

  pub split_room : a - 1 + 1 + (s + 1 + (a - 1 + 1)) ≤ length (mid_of (8 * (t + 1)) m w₁)
  split_room = omega (arith, mid_length (8 * (t + 1)) m w₁ inside)

  pub split_given : Given ν (a - 1) s i (mid_of (8 * (t + 1)) m w₁)
  split_given = record {
    small = asked.lead.inverse.below;
    below = record {
      at = λ k h. subst (λ (x : ℕ). x < ν) (sym (was (8 * (t + 1)) m w₁ inside (8 * (t + 1) + k) (0 + k) (omega arith)
          (omega arith) ∙ cp.mid k (omega arith))) (asked.below.at k (omega arith));
    };
    unit = ap (λ (f : List ℕ). (i * coef f s) % ν) copied ∙ ap (λ (x : ℕ). x % ν) (mul_comm i (coef (piece w pb a) s))
        ∙ asked.lead.inverse.one;
    nilpotent = λ k h. subst (λ (f : List ℕ). IsNilpotent ν (coef f k)) (sym copied) (asked.lead.nilpotent k h);
  }

  module _ (ys : List ℕ) (ly : length ys ≡ length (mid_of (8 * (t + 1)) m w₁)) (fc : Factored ν (a - 1) s (mid_of (8 * (t + 1)) m w₁) ys)
      (w₃ : List ℕ)
      (cq : Moved second (8 * (t + 1) + a) pb (s + 1) (put_mid (8 * (t + 1)) m w₁ ys) w₃) where
    around : Around (8 * (t + 1)) m w₁ (put_mid (8 * (t + 1)) m w₁ ys)
    around = window (8 * (t + 1)) m w₁ inside ys ly

    long : 11 * (t + 1) ≤ length (put_mid (8 * (t + 1)) m w₁ ys)
    long = omega (arith, around.same, cp.same)

    -- H, at pb
    monic_part : piece w₃ pb (s + 1) ≡ piece ys (a - 1 + 1) (s + 1)
    monic_part =
        moved_copy (omega (arith, long)) (omega (arith, long)) cq
        ∙ ap (λ (x : ℕ). piece (put_mid (8 * (t + 1)) m w₁ ys) (8 * (t + 1) + x) (s + 1)) (sym one_more)
        ∙ piece_put (8 * (t + 1)) m w₁ inside ys ly (a - 1 + 1) (s + 1) (omega arith)

    -- U, in the room
    unit_part : piece w₃ (unit_place t a s) (a - s) ≡ piece ys (a - 1 + 1 + (s + 1) + s) (a - 1 + 1 - s)
    unit_part =
        piece_same (put_mid (8 * (t + 1)) m w₁ ys) w₃ (unit_place t a s) (a - s) (omega (arith, long)) cq.same
        (λ k h. cq.high (unit_place t a s + k) (omega arith))
        ∙ ap (λ (x : ℕ). piece (put_mid (8 * (t + 1)) m w₁ ys) (8 * (t + 1) + (x + (s + 1) + s)) (x - s)) (sym one_more)
        ∙ piece_put (8 * (t + 1)) m w₁ inside ys ly (a - 1 + 1 + (s + 1) + s) (a - 1 + 1 - s) (omega arith)

    pub split_done : UnitSplit ν t pb a s w w₃
    split_done = record {
      outside = record {
        same = cq.same ∙ around.same ∙ cp.same;
        at = λ k p q. around_at (moved_around cq) k p ∙ around_at around k (λ j h e. q j (omega arith) e) ∙ around_at (moved_around cp) k
            (λ j h e. q j (omega arith) e);
      };
      equation = subst (λ (f : List ℕ). Multiplied ν f (piece w₃ (unit_place t a s) (a - s)) (piece w₃ pb (s + 1))) copied
          (subst (λ (u : List ℕ). Multiplied ν (piece (mid_of (8 * (t + 1)) m w₁) 0 (a - 1 + 1)) u (piece w₃ pb (s + 1))) (sym unit_part)
          (subst (λ (h : List ℕ). Multiplied ν (piece (mid_of (8 * (t + 1)) m w₁) 0 (a - 1 + 1))
          (piece ys (a - 1 + 1 + (s + 1) + s) (a - 1 + 1 - s)) h) (sym monic_part) fc.equation));
      monic = sym (piece_at w₃ pb (s + 1) s (omega arith)) ∙ ap (λ (h : List ℕ). coef h s) monic_part ∙ fc.monic;
      unit = subst (UnitPolynomial ν) (sym unit_part) fc.unit;
      below = record {
        at = λ k h. subst (λ (x : ℕ). x < ν)
            (sym (cq.mid k h ∙ is_now (8 * (t + 1)) m w₁ inside ys ly (8 * (t + 1) + a + k) (a - 1 + 1 + k) (omega arith) (omega arith)))
            (fc.below_h.at k h);
      };
    }

pub ruleset splittings = (rules, split_room, split_given, split_done)
