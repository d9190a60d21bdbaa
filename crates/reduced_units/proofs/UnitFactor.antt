-- The unit factor of B is split off, inverted, and taken out of the multiplier of B, at any width.
--
--   split_asked              what the splitting asks
--   unit_room, unit_given    what the inverse asks
--   over_fits, over_asked    what the multiplier over the unit asks
--   unit_taken               what comes of it
--   factorings               the rules
use mathlib.Core.Path.{◌≡◌, refl, sym, ap, ap₂, subst, ◌∙◌}
use mathlib.Core.List.{List, []}
use mathlib.Core.Logic.{⊎_elim}
use Prim.Native.Nat.{ℕ, zero, suc, ◌+◌, ◌-◌, ◌*◌, ◌%◌, ◌^◌, ◌≤◌, ◌<◌}
use native.Mathlib.Omega.{arith}
use native.Mathlib.Nat.{mul-le-mul, le_of_dvd}
use mir.Syntax.{w64}
use mir.Val.{Fits}
use borrow.Author.Rules.{rules}
use lib.ListN.{length, get_or}
use Rattle.definitions.specs.Residues.{K}
use Rattle.definitions.specs.Polynomials.{coef, Multiplied, UnitPolynomial}
use Rattle.law_numbers.specs.Logarithm.{K_monotone, K_positive}
use Rattle.windows.specs.Window.{piece, Below, Around, Apart, Outside}
use Rattle.windows.proofs.Leaf.{lt_or_le, piece_same, around_at}
use Rattle.law_multipliers.specs.Multipliers.{Taken, NegatedInverse}
use Rattle.window_factor.specs.Factors.{LeadingUnit}
use Rattle.reduced_products.specs.Products.{MonicAtZero}
use Rattle.reduced_units.specs.States.{Multiplier, Stage, stage_room}
use Rattle.reduced_units.specs.Factorings.{SplitAsked, UnitSplit, Negated, OverAsked, OverUnit, UnitTaken, unit_place}
use Rattle.reduced_units.proofs.Regions.{apart_low, below_apart, piece_apart, multiplier_apart, monic_apart}

-- the words of an inverse of a unit polynomial of degree below t
inverse_most : (n ν t k : ℕ) → 2 ≤ ν → ν ≤ n → k + 1 ≤ t → K ν * k + 1 ≤ K n * t
inverse_most n ν t k a b c =
    let p = K_positive ν a in
    let q : K ν * (k + 1) ≤ K n * t = mul-le-mul (K_monotone ν n (omega arith) b) c in
    omega arith

-- what the splitting asks
pub split_asked : (n ν t pa pb a al be l s i : ℕ) (w : List ℕ) → Stage n ν t pa a pb a al be l w → s < a → LeadingUnit ν s i (piece w pb a)
    → SplitAsked ν t pb a s i w
split_asked n ν t pa pb a al be l s i w st shorter lead = record {
  above = st.above;
  shorter = shorter;
  within = st.within;
  low = omega (arith, st.places.b_high, st.within);
  room = omega (arith, st.room);
  below = st.second;
  lead = lead;
}

module _ (n ν t pa pb a al be l s : ℕ) (w w₁ : List ℕ) (stage : Stage n ν t pa a pb a al be l w) (shorter : s < a)
    (sp : UnitSplit ν t pb a s w w₁) where
  small : ν ≤ n
  small = le_of_dvd stage.positive stage.divides

  room : stage_room n t ≤ length w
  room = stage.room

  within : a ≤ t
  within = stage.within

  degree : a - 1 - s + 1 ≡ a - s
  degree = omega arith

  bound : K ν * (a - 1 - s) + 1 ≤ K n * t
  bound = inverse_most n ν t (a - 1 - s) stage.above small (omega (arith, within))

  -- what the inverse asks
  pub unit_room : unit_place t a s + (a - 1 - s + 1) + (K ν * (a - 1 - s) + 1) ≤ length w₁
  unit_room = omega (arith, sp.outside.same, bound)

  pub unit_given : UnitPolynomial ν (piece w₁ (unit_place t a s) (a - 1 - s + 1))
  unit_given = subst (λ (x : ℕ). UnitPolynomial ν (piece w₁ (unit_place t a s) x)) (sym degree) sp.unit

  -- a word below the room, outside the place of the monic factor
  word : (k : ℕ) → k < 8 * (t + 1) → ((i : ℕ) → i < s + 1 → k ≡ pb + i → ⊥) → get_or w₁ k 0 ≡ get_or w k 0
  word k h p = sp.outside.at k p (λ j q e. omega arith)

  same_h₁ : piece w₁ 0 (t + 1) ≡ piece w 0 (t + 1)
  same_h₁ = piece_same w w₁ 0 (t + 1) (omega arith) sp.outside.same (λ k h. word (0 + k) (omega arith) (λ i q e. omega arith))

  monic₁ : MonicAtZero n t w₁
  monic₁ = record {
    lead = word t (omega arith) (λ i q e. omega arith) ∙ stage.monic.lead;
    below = record {
      at = λ k h. subst (λ (x : ℕ). x < n) (sym (word (0 + k) (omega arith) (λ i q e. omega arith)))
          (stage.monic.below.at k h);
    };
  }

  be_word : (k : ℕ) → k < 2 * (t + 1) → get_or w₁ (be + k) 0 ≡ get_or w (be + k) 0
  be_word k h = word (be + k) (omega arith) (λ i q e. omega arith)

  mu₁ : Multiplier n t be l w₁
  mu₁ = record {
    below = record { at = λ k h. subst (λ (x : ℕ). x < n) (sym (be_word k h)) (stage.beta.below.at k h) };
    zero = λ k h h'. be_word k h' ∙ stage.beta.zero k h h';
  }

  same_be₁ : piece w₁ be (2 * (t + 1)) ≡ piece w be (2 * (t + 1))
  same_be₁ = piece_same w w₁ be (2 * (t + 1)) (omega arith) sp.outside.same be_word

  module _ (len : ℕ) (w₂ : List ℕ) (ng : Negated ν (unit_place t a s) (a - 1 - s) len w₁ w₂) where
    len_most : len ≤ K n * t
    len_most = omega (arith, ng.is_len, shorter_product (K ν) (a - 1 - s), bound)
      where
        shorter_product : (x k : ℕ) → (x - 1) * k ≤ x * k
        shorter_product x k = mul-le-mul (omega arith) le_self
          where
            le_self : k ≤ k
            le_self = omega arith

    over_room : unit_place t a s + (a - 1 - s + 1) + len + (len + t) ≤ length w₂
    over_room = omega (arith, ng.around.same, sp.outside.same, len_most)

    over_length : 1 ≤ len
    over_length = omega (arith, ng.is_len)

    over_h : MonicAtZero n t w₂
    over_h = monic_apart (omega arith) ng.around monic₁

    over_words : Below n (unit_place t a s + (a - 1 - s + 1)) len w₂
    over_words = record { at = λ k h. lower (ng.below.at k h) }
      where
        lower : {x : ℕ} → x < ν → x < n
        lower h = omega (arith, small)

    over_multiplier : Multiplier n t be l w₂
    over_multiplier = multiplier_apart (apart_low be (2 * (t + 1)) (unit_place t a s + (a - 1 - s + 1)) len (omega arith)) ng.around mu₁

    pub over_fits : length w < 2 ^ 64 → Fits w64 (unit_place t a s + (a - 1 - s + 1) + len)
    over_fits top = record { fits = omega (arith, over_room, ng.around.same, sp.outside.same) }

    pub over_asked : OverAsked n t (unit_place t a s + (a - 1 - s + 1)) len be l (unit_place t a s + (a - 1 - s + 1) + len) w₂
    over_asked = record {
      positive = stage.positive;
      degree = omega (arith, stage.degree);
      some_inverse = over_length;
      some = stage.some;
      most = stage.most;
      low = omega (arith, stage.places.be_low);
      next = omega (arith, stage.places.be_high);
      last = omega arith;
      room = over_room;
      monic = over_h;
      below = over_words;
      multiplier = over_multiplier;
    }

    module _ (r : ℕ) (w₃ : List ℕ) (ov : OverUnit n t (unit_place t a s + (a - 1 - s + 1)) len be l
        (unit_place t a s + (a - 1 - s + 1) + len) r w₂ w₃) where
      -- a word below the room, but for the multiplier
      later : (k : ℕ) → k < 8 * (t + 1) → ((i : ℕ) → i < t → k ≡ be + i → ⊥) → get_or w₃ k 0 ≡ get_or w₁ k 0
      later k h p = ov.outside.at k p (λ j q e. omega arith) ∙ around_at ng.around k (λ j q e. omega arith)

      pb_word : (k : ℕ) → k < s + 1 → get_or w₃ (pb + k) 0 ≡ get_or w₁ (pb + k) 0
      pb_word k h = later (pb + k) (omega arith) (λ i q e. omega arith)

      same_pb : piece w₃ pb (s + 1) ≡ piece w₁ pb (s + 1)
      same_pb = piece_same w₁ w₃ pb (s + 1) (omega (arith, sp.outside.same)) (ov.outside.same ∙ ng.around.same) pb_word

      same_h₂ : piece w₂ 0 (t + 1) ≡ piece w 0 (t + 1)
      same_h₂ = piece_apart (apart_low 0 (t + 1) (unit_place t a s + (a - 1 - s + 1)) len (omega arith)) ng.around
          (omega (arith, sp.outside.same)) ∙ same_h₁

      same_be₂ : piece w₂ be (2 * (t + 1)) ≡ piece w be (2 * (t + 1))
      same_be₂ = piece_apart (apart_low be (2 * (t + 1)) (unit_place t a s + (a - 1 - s + 1)) len (omega arith)) ng.around
          (omega (arith, sp.outside.same)) ∙ same_be₁

      pub unit_taken : UnitTaken n ν t pb a be s l r w w₃
      unit_taken = record {
        same = ov.outside.same ∙ ng.around.same ∙ sp.outside.same;
        at = λ k h p q. later k h q ∙ word k h p;
        u = piece w₁ (unit_place t a s) (a - s);
        j = piece w₂ (unit_place t a s + (a - 1 - s + 1)) len;
        equation = subst (Multiplied ν (piece w pb a) (piece w₁ (unit_place t a s) (a - s))) (sym same_pb) sp.equation;
        inverse = subst (λ (x : ℕ). NegatedInverse ν (piece w₁ (unit_place t a s) x)
            (piece w₂ (unit_place t a s + (a - 1 - s + 1)) len)) degree ng.inverse;
        monic = pb_word s (omega arith) ∙ sp.monic;
        below = record { at = λ k h. subst (λ (x : ℕ). x < ν) (sym (pb_word k h)) (sp.below.at k h) };
        longer = ov.longer;
        most = ov.most;
        multiplier = ov.multiplier;
        taken = subst (λ (f : List ℕ). Taken n f (piece w be (2 * (t + 1))) (piece w₂ (unit_place t a s + (a - 1 - s + 1)) len) []
            (piece w₃ be (2 * (t + 1)))) same_h₂
            (subst (λ (f : List ℕ). Taken n (piece w₂ 0 (t + 1)) f (piece w₂ (unit_place t a s + (a - 1 - s + 1)) len) []
            (piece w₃ be (2 * (t + 1)))) same_be₂ ov.taken);
      }

pub ruleset factorings = (rules, split_asked, unit_room, unit_given, over_fits, over_asked, unit_taken)
