-- What a round of each loop keeps, and what the stages come to, for words of any width.
--
--   Handing, Trailing           the invariants of `hand_out` and `leading_place`, with their start, round and end
--   words_given, words_done     unit times monic in the working buffer: what is asked, and what it hands out
--   record_given, record_done   the same by the record of the modulus
--   factoring                   the rules
use mathlib.Core.Path.{◌≡◌, refl, sym, ap, ◌∙◌}
use mathlib.Core.Bool.{Bool, true, false, not}
use mathlib.Core.List.{List}
use Prim.Native.Nat.{ℕ, pred, ◌+◌, ◌-◌, ◌≤◌, ◌<◌}
use native.Mathlib.Numerals.{sub-one}
use native.Mathlib.Omega.{arith}
use lib.ListN.{length, set, replicate}
use borrow.Author.Rules.{rules}
use borrow.Author.Tests.{not-true, not-false}
use Rattle.definitions.specs.Polynomials.{coef, tabulate, UnitTimesMonic}
use Rattle.windows.specs.Window.{piece, Loaded}
use Rattle.windows.proofs.Leaf.{piece_at, piece_over}
use Rattle.window_factor.specs.Factors.{Given, Factored}
use Rattle.law_polynomial_tests.specs.UnitTests.{is_nilpotent, lead_place}
use Rattle.law_polynomial_tests.specs.Counts.{HoldsFrom, holds_none, holds_more, holds_all, holds_until}
use Rattle.law_polynomial_tests.specs.Buffers.{Filled, filled_none, filled_step, filled_end}
use Rattle.unit_monic_service.specs.UnitMonicStages.{FactorsAsked}
use Rattle.unit_monic_service.proofs.Parts.{given_of, factors_of}

pub within_piece : (w : List ℕ) (a len k : ℕ) → k < len → coef w (a + k) ≡ coef (piece w a len) k
within_piece w a len k l = sym (piece_at w a len k l)

pub beyond_piece : (w : List ℕ) (a len k : ℕ) → len ≤ k → 0 ≡ coef (piece w a len) k
beyond_piece w a len k l = sym (piece_over w a len k l)

-- ---- a result out of the working buffer

pub record Handing (F : ℕ → ℕ) (w₀ w : List ℕ) (k : ℕ) : Type 0 where
  pub most : k ≤ length w₀
  pub done : Filled F k w₀ w

pub handing_none : (F : ℕ → ℕ) (w : List ℕ) → Handing F w w 0
handing_none F w = record { most = omega arith; done = filled_none _ _ }

pub handing_next : {F : ℕ → ℕ} {k k' : ℕ} {w₀ w w' : List ℕ} (v : ℕ) → Handing F w₀ w k → k < length w → v ≡ F k → w' ≡ set w k v
    → k' ≡ k + 1
    → Handing F w₀ w' k'
handing_next v h l e ew ek = rw (ew, ek) (record {
  most = omega (arith, h.done.same);
  done = filled_step h.done
      (omega (arith, h.done.same)) e;
})

pub handing_end : {F : ℕ → ℕ} {k : ℕ} {w₀ w : List ℕ} → Handing F w₀ w k → length w₀ ≤ k → w ≡ tabulate (length w₀) F
handing_end h l = filled_end h.done h.most (omega (arith, h.done.same))

-- ---- the leading place

pub record Trailing (n : ℕ) (f : List ℕ) (t : ℕ) : Type 0 where
  pub most : t ≤ length f
  pub done : HoldsFrom (is_nilpotent n) f t

pub trailing_none : (n : ℕ) (f : List ℕ) → Trailing n f (length f)
trailing_none n f = record { most = omega arith; done = holds_none _ _ }

module _ {n t : ℕ} {f : List ℕ} (h : Trailing n f t) where
  -- n' is the modulus of a record of n
  pub trailing_found : (n' : ℕ) (b : Bool) → b ≡ is_nilpotent n' (coef f (t - 1)) → not b ≡ true → n' ≡ n → t - 1 ≡ lead_place n f
  trailing_found n' b e₀ v is =
      let e : b ≡ is_nilpotent n (coef f (t - 1)) = rw is at e₀ in
      sub-one t ∙ ap pred (holds_until h.done h.most (sym e ∙ not-true _ v))

  pub trailing_next : {t' : ℕ} (n' : ℕ) (b : Bool) → 0 < t → b ≡ is_nilpotent n' (coef f (t - 1)) → not b ≡ false → n' ≡ n → t' ≡ t - 1
      → Trailing n f t'
  trailing_next n' b l e₀ v is et =
      let e : b ≡ is_nilpotent n (coef f (t - 1)) = rw is at e₀ in
      rw et (record { most = omega (arith, h.most); done = holds_more h.done l (sym e ∙ not-false _ v) })

  pub trailing_end : t ≤ 0 → 0 ≡ lead_place n f
  trailing_end l = ap pred (holds_all h.done (omega arith))

-- ---- unit times monic in the working buffer

module _ {n t i : ℕ} {f u h work w₁ : List ℕ} (a : FactorsAsked n t i f u h work) (ld : Loaded n 0 f work w₁) where
  fits : length f - 1 + 1 ≡ length f
  fits = omega (arith, a.lead.place)

  pub words_within : t ≤ length f - 1
  words_within = omega (arith, a.lead.place)

  pub words_room : length f - 1 + 1 + (t + 1 + (length f - 1 + 1)) ≤ length w₁
  words_room = omega (arith, a.lead.place, a.room, ld.same)

  pub words_given : Given n (length f - 1) t i w₁
  words_given = given_of n (length f - 1) t i f work w₁ a.modulus fits (omega (arith, a.room)) a.residues a.lead ld

  module _ {w₂ : List ℕ} (fc : Factored n (length f - 1) t w₁ w₂) where
    pub words_wiped : (w₃ : List ℕ) → w₃ ≡ replicate (length w₂) 0 → w₃ ≡ replicate (length work) 0
    words_wiped w₃ e = e ∙ ap (λ (x : ℕ). replicate x 0) (fc.around.same ∙ ld.same)

    pub words_done : {u' h' : List ℕ} → u' ≡ tabulate (length u) (coef (piece w₂ (length f - 1 + 1 + (t + 1) + t) (length f - 1 + 1 - t)))
        → h' ≡ tabulate (length h) (coef (piece w₂ (length f - 1 + 1) (t + 1))) → UnitTimesMonic n f t u' h'
    words_done eu eh =
        factors_of n (length f - 1) t i f work w₁ w₂ _ _ a.modulus fits a.room a.residues a.lead ld fc _ _ a.length_u
        a.length_h eu eh

-- the same by the record of the modulus, whose n' is n
module _ {n n' d t : ℕ} {w : List ℕ} where
  pub record_given : {i : ℕ} → Given n d t i w → n' ≡ n → Given n' d t i w
  record_given g is = rw is g

  pub record_done : {w' : List ℕ} → Factored n' d t w w' → n' ≡ n → Factored n d t w w'
  record_done f is = rw is at f

pub ruleset hands = (within_piece, beyond_piece, handing_none, handing_next, handing_end)

pub ruleset trails = (trailing_none, trailing_found, trailing_next, trailing_end)

pub ruleset words = (words_within, words_room, words_given, words_wiped, words_done)

pub ruleset factoring = (rules, hands, trails, words, record_given, record_done)
