-- A polynomial with a leading unit in the place of another: the monic factor, found in the room, or the polynomial itself. Each rule takes
-- the facts as the code has them.
--
--   part_of b m w                            the words of B, lent
--   place_fits, lead_itself, factor_asked    its coefficient t has an inverse, and those above it are nilpotent
--   part_nilpotents                          all of its coefficients are nilpotent
--   factor_room, factor_given, factor_done   the monic factor
--   factors                                  the rules
use mathlib.Core.Path.{◌≡◌, refl, sym, ap, ap₂, subst, ◌∙◌}
use mathlib.Core.List.{List}
use Prim.Native.Nat.{ℕ, ◌+◌, ◌-◌, ◌*◌, ◌%◌, ◌≤◌, ◌<◌}
use native.Mathlib.Omega.{arith}
use native.Mathlib.Nat.{mul_comm, add-zero, one-mul}
use lib.ListN.{length, get_or}
use borrow.Author.Rules.{rules}
use borrow.Rule.Slice.PartMut.{put_mid, mid_of}
use mir.Syntax.{Width}
use mir.Val.{Fits}
use mir.Facts.{Fits-le}
use Rattle.definitions.specs.Residues.{IsNilpotent}
use Rattle.definitions.specs.Polynomials.{coef, Multiplied}
use Rattle.definitions.specs.Resultants.{Reduced}
use Rattle.law_polynomials.specs.PolynomialLaws.{unit_polynomial_inverse}
use Rattle.law_polynomials.specs.ReducedLaws.{reduced_unit}
use Rattle.windows.specs.Window.{piece, Moved, second, Around}
use Rattle.windows.proofs.Leaf.{piece_at, piece_length, around_at}
use Rattle.windows.proofs.Lift.{moved_around, moved_copy, mid_length, was, piece_mid, window, is_now, piece_put}
use Rattle.window_factor.specs.Factors.{LeadingUnit, AllNilpotents, Given, Factored}
use Rattle.reduced_units.proofs.Regions.{part_piece}
use Rattle.divisor_stages.specs.LeadingUnits.{LeadAsked, FactorAsked, Leading}

-- the words of B, lent, are B
abbrev pub part_of : ℕ → ℕ → List ℕ → List ℕ
part_of b m w = mid_of b (b + m - b) w

pub part_is : (b m : ℕ) (w : List ℕ) → part_of b m w ≡ piece w b m
part_is b m w = part_piece w b m (b + m - b) (omega arith)

pub part_nilpotents : (n b m : ℕ) (w : List ℕ) → AllNilpotents n (part_of b m w) → AllNilpotents n (piece w b m)
part_nilpotents n b m w = subst (AllNilpotents n) (part_is b m w)

module _ {n b m t i s : ℕ} {w : List ℕ} (a : LeadAsked n b m s w) (u : LeadingUnit n t i (part_of b m w)) where
  lead : LeadingUnit n t i (piece w b m)
  lead = subst (LeadingUnit n t i) (part_is b m w) u

  -- the place of a coefficient
  place_below : t < m
  place_below = omega (arith, lead.place, piece_length w b m (omega (arith, a.within, a.fits)))

  pub place_fits : {W : Width} → Fits W m → Fits W (t + 1)
  place_fits = Fits-le (omega (arith, place_below))

  pub factor_asked : FactorAsked n b m t i s w
  factor_asked = record { asked = a; shorter = place_below; lead = lead }

  -- the leading word is a unit as it is
  pub lead_itself : t + 1 ≡ m → Leading n b m t i s w w
  lead_itself e = record {
    shorter = omega arith;
    beyond = record { same = refl; at = λ k h o. refl };
    below = record { at = λ k h. a.below.at k (omega arith) };
    inverse = ap (λ (y : ℕ). (i * y) % n) (sym (piece_at w b m t (omega arith)))
        ∙ ap (λ (y : ℕ). y % n) (mul_comm i (coef (piece w b m) t)) ∙ lead.inverse.one;
    constants = λ g D r. subst (λ (l : ℕ). Reduced n (piece w b l) g D) e r;
  }

module _ {n b m t i s : ℕ} {w w₁ : List ℕ} (fa : FactorAsked n b m t i s w) (cp : Moved second b s m w w₁) where
  -- the words of the room
  abbrev l : ℕ
  l = s + 3 * m - s

  shorter : t < m
  shorter = fa.shorter

  within : b + m ≤ s
  within = fa.asked.within

  fits : s + 3 * m ≤ length w
  fits = fa.asked.fits

  inside : s + l ≤ length w₁
  inside = omega (arith, cp.same, fits)

  one_more : m - 1 + 1 ≡ m
  one_more = omega (arith, shorter)

  -- what is factored is B
  copied : piece (mid_of s l w₁) 0 (m - 1 + 1) ≡ piece w b m
  copied =
      piece_mid s l w₁ inside 0 (m - 1 + 1) (omega (arith, shorter))
      ∙ ap₂ (λ (x y : ℕ). piece w₁ x y) (add-zero s) one_more
      ∙ moved_copy (omega (arith, within, fits)) (omega (arith, within, fits)) cp

  pub factor_room : m - 1 + 1 + (t + 1 + (m - 1 + 1)) ≤ length (mid_of s l w₁)
  factor_room = omega (arith, mid_length s l w₁ inside, shorter)

  pub factor_given : Given n (m - 1) t i (mid_of s l w₁)
  factor_given = record {
    small = fa.lead.inverse.below;
    below = record {
      at = λ k h. subst (λ (x : ℕ). x < n)
          (sym (was s l w₁ inside (s + k) (0 + k) (omega arith) (omega (arith, shorter)) ∙ cp.mid k (omega (arith, shorter))))
          (fa.asked.below.at k (omega (arith, shorter)));
    };
    unit = ap (λ (f : List ℕ). (i * coef f t) % n) copied
        ∙ ap (λ (x : ℕ). x % n) (mul_comm i (coef (piece w b m) t)) ∙ fa.lead.inverse.one;
    nilpotent = λ k h. subst (λ (f : List ℕ). IsNilpotent n (coef f k)) (sym copied) (fa.lead.nilpotent k h);
  }

  module _ {ys w₃ : List ℕ} (fc : Factored n (m - 1) t (mid_of s l w₁) ys) (ly : length ys ≡ length (mid_of s l w₁))
      (cq : Moved second (s + m) b (t + 1) (put_mid s l w₁ ys) w₃) where
    around : Around s l w₁ (put_mid s l w₁ ys)
    around = window s l w₁ inside ys ly

    long : s + 3 * m ≤ length (put_mid s l w₁ ys)
    long = omega (arith, around.same, cp.same, fits)

    -- H, at b
    monic_part : piece w₃ b (t + 1) ≡ piece ys (m - 1 + 1) (t + 1)
    monic_part =
        moved_copy (omega (arith, long, shorter)) (omega (arith, long, within, shorter)) cq
        ∙ ap (λ (x : ℕ). piece (put_mid s l w₁ ys) (s + x) (t + 1)) (sym one_more)
        ∙ piece_put s l w₁ inside ys ly (m - 1 + 1) (t + 1) (omega (arith, shorter))

    -- U
    abbrev U : List ℕ
    U = piece ys (m - 1 + 1 + (t + 1) + t) (m - 1 + 1 - t)

    equation : Multiplied n (piece w b m) U (piece w₃ b (t + 1))
    equation = subst (λ (f : List ℕ). Multiplied n f U (piece w₃ b (t + 1))) copied
        (subst (λ (h : List ℕ). Multiplied n (piece (mid_of s l w₁) 0 (m - 1 + 1)) U h) (sym monic_part) fc.equation)

    pub factor_done : Leading n b m t 1 s w w₃
    factor_done = record {
      shorter = shorter;
      beyond = record {
        same = cq.same ∙ around.same ∙ cp.same;
        at = λ k h o. around_at (moved_around cq) k (λ j p e. o j (omega (arith, shorter)) e) ∙ around.low k h ∙ cp.low k h;
      };
      below = record {
        at = λ k h. subst (λ (x : ℕ). x < n)
            (sym (cq.mid k h
            ∙ is_now s l w₁ inside ys ly (s + m + k) (m - 1 + 1 + k) (omega (arith, shorter)) (omega (arith, shorter))))
            (fc.below_h.at k h);
      };
      inverse = ap (λ (x : ℕ). x % n) (one-mul (get_or w₃ (b + t) 0)
          ∙ sym (piece_at w₃ b (t + 1) t (omega arith)) ∙ ap (λ (h : List ℕ). coef h t) monic_part ∙ fc.monic);
      constants = λ g D r.
          let positive : 1 ≤ n = omega (arith, fa.asked.two) in
          let u = unit_polynomial_inverse n positive U fc.unit in
          reduced_unit n positive (piece w b m) U u.w (piece w₃ b (t + 1)) g D equation u.is r;
    }

pub ruleset factors = (rules, place_fits, factor_asked, lead_itself, part_nilpotents, factor_room, factor_given, factor_done)
