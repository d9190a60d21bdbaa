-- Rows that come in; rows one column on.
--
--   entered                                     the words of a row that comes in
--   row_shifted                                 the words of a row one column on
--   entries, shifts                             the rules
use mathlib.Core.Path.{◌≡◌, sym, ap, ◌∙◌, subst}
use mathlib.Core.Logic.{◌≢◌}
use mathlib.Core.List.{List}
use Prim.Native.Nat.{ℕ, suc, ◌+◌, ◌*◌, ◌-◌, ◌<◌, ◌≤◌}
use native.Mathlib.Decide.{dec_lt}
use native.Mathlib.Omega.{arith}
use borrow.Author.Rules.{rules}
use lib.ListN.{length, get_or, set, length-set}
use lib.Seq.{get_or-set_same, get_or-set_other}
use Rattle.windows.specs.Window.{Moved, Written, zeroed, second}
use Rattle.band_clearing.specs.Bands.{cell, from_top, EnterAsked, RowEntered, ShiftAsked, RowShifted}

-- ---- a row that comes in: zeros, then the words, then the one word of the multiplier

module _ {r : ℕ} {h : List ℕ} {o p : ℕ} {w₀ w₁ w₂ : List ℕ} (a : EnterAsked r h o p w₀) (z : Moved zeroed (145 * r) (145 * r) 145 w₀ w₁)
    (f : Written (from_top h) (145 * r) (length h) w₁ w₂) where
  one_at : (i j : ℕ) → 145 * i + j ≢ 145 * r + (o + p) → cell (set w₂ (145 * r + (o + p)) 1) i j ≡ cell w₂ i j
  one_at i j y = get_or-set_other w₂ (145 * r + (o + p)) (145 * i + j) 1 0 y

  words_at : (j : ℕ) → length h ≤ j → j < 145 → cell w₂ r j ≡ 0
  words_at j l b = f.high (145 * r + j) (omega arith) ∙ z.mid j b

  entered_set : RowEntered r h o p w₀ (set w₂ (145 * r + (o + p)) 1)
  entered_set = record {
    same = length-set w₂ (145 * r + (o + p)) 1 ∙ f.same ∙ z.same;
    head = λ j l. one_at r j (λ y. omega (arith, a.few, a.place)) ∙ f.mid j l;
    rest = λ j l b. one_at r j (λ y. omega (arith, a.place)) ∙ words_at j l (omega arith);
    one = get_or-set_same w₂ (145 * r + (o + p)) 1 0 (omega (arith, a.room, a.row, a.power, z.same, f.same));
    none = λ j l b y. one_at r j (λ q. y (omega arith)) ∙ words_at j (omega (arith, a.few)) b;
    others = λ i j b y. one_at i j (λ q. y (same_row i j b q)) ∙ away i j b y (dec_lt i r);
  }
    where
      same_row : (i j : ℕ) → j < 145 → 145 * i + j ≡ 145 * r + (o + p) → i ≡ r
      same_row i j b q = omega (arith, a.power)

      away : (i j : ℕ) → j < 145 → i ≢ r → Dec (i < r) → cell w₂ i j ≡ cell w₀ i j
      away i j b y (yes t) = f.low (145 * i + j) (omega arith) ∙ z.low (145 * i + j) (omega arith)
      away i j b y (no t) =
          let u : r < i = omega arith in f.high (145 * i + j) (omega (arith, a.few)) ∙ z.high (145 * i + j) (omega arith)

  pub entered : {w' : List ℕ} → w' ≡ set w₂ (145 * r + (o + p)) 1 → RowEntered r h o p w₀ w'
  entered e = subst (RowEntered r h o p w₀) (sym e) entered_set

pub enter_same : {F : ℕ → ℕ} {a b l m : ℕ} {w w₁ w₂ : List ℕ} (i v : ℕ) → Moved zeroed a a m w w₁ → Written F b l w₁ w₂
    → length (set w₂ i v) ≡ length w
enter_same {w₂ = w₂} i v z f = length-set w₂ i v ∙ f.same ∙ z.same

-- ---- one column on

module _ {i b : ℕ} {w₀ w₁ : List ℕ} (a : ShiftAsked (i + 1) b w₀) (c : Moved second (145 * i + 1) (145 * i) (b - 1) w₀ w₁) where
  shifted_set : RowShifted i b w₀ (set w₁ (145 * i + (b - 1)) 0)
  shifted_set = record {
    same = length-set w₁ (145 * i + (b - 1)) 0 ∙ c.same;
    at = λ j l. other i j (λ y. omega arith) ∙ c.mid j (omega arith) ∙ ap (λ (x : ℕ). get_or w₀ x 0) (from j);
    last = get_or-set_same w₁ (145 * i + (b - 1)) 0 0 (omega (arith, a.rows, a.most, a.room, c.same));
    upper = λ j l h. other i j (λ y. omega (arith, a.some)) ∙ c.high (145 * i + j) (omega arith);
    others = λ r j h z. other r j (λ y. z (same_row r j h y)) ∙ away r j h z (dec_lt r i);
  }
    where
      from : (j : ℕ) → 145 * i + 1 + j ≡ 145 * i + suc j
      from j = omega arith

      other : (r j : ℕ) → 145 * r + j ≢ 145 * i + (b - 1) → cell (set w₁ (145 * i + (b - 1)) 0) r j ≡ cell w₁ r j
      other r j y = get_or-set_other w₁ (145 * i + (b - 1)) (145 * r + j) 0 0 y

      same_row : (r j : ℕ) → j < 145 → 145 * r + j ≡ 145 * i + (b - 1) → r ≡ i
      same_row r j h y = omega (arith, a.most)

      away : (r j : ℕ) → j < 145 → r ≢ i → Dec (r < i) → cell w₁ r j ≡ cell w₀ r j
      away r j h z (yes t) = c.low (145 * r + j) (omega arith)
      away r j h z (no t) = let u : i < r = omega arith in c.high (145 * r + j) (omega (arith, a.most))

  pub row_shifted : {w' : List ℕ} → w' ≡ set w₁ (145 * i + (b - 1)) 0 → RowShifted i b w₀ w'
  row_shifted e = subst (RowShifted i b w₀) (sym e) shifted_set

pub ruleset entries = (rules, entered, enter_same)

pub ruleset shifts = (rules, row_shifted)
