-- Steps on two live rows: what a row added to a row keeps, and Euclid's algorithm on the first words.
--
--   row_keeps                   live rows stay live
--   row_reduced                 the remainder of the first words
--   keeps_none, keeps_both, keeps_flip   steps one after the other
--   Alternating, round_falls, round_kept, round_ends, round_done    a round of Euclid's algorithm
--   alternating_asked, half_asked, half_heads    what its two steps ask
--   reductions, multiples, alternations          the rules
use mathlib.Core.Path.{◌≡◌, refl, sym, ap, ap₂, ◌∙◌, subst}
use mathlib.Core.Logic.{◌≢◌, inl, inr}
use mathlib.Core.List.{List}
use Prim.Native.Nat.{ℕ, zero, suc, pred, ◌+◌, ◌*◌, ◌-◌, ◌/◌, ◌%◌, ◌<◌, ◌≤◌}
use native.Mathlib.Decide.{dec_lt, ℕ_discrete}
use native.Mathlib.Nat.{mod-lt, mod-mod, mod-eq_of_lt, div-add-mod, add-mul-mod_self_left, pos_of_dvd_of_pos}
use native.Mathlib.Omega.{arith}
use borrow.Author.Rules.{rules}
use lib.ListN.{length, get_or}
use Rattle.law_numbers.specs.Divisors.{GcdCofactor}
use Rattle.law_rows.specs.LiveWords.{LiveWords}
use Rattle.law_rows.specs.WordSteps.{AddedWords, words_add}
use Rattle.band_clearing.specs.Bands.{cell, window, Shape, HeadsBelow, PairAsked, RowAdded, KeepsTwo, RowReduced, RowCleared}
use Rattle.band_clearing.proofs.Cells.{window_at, window_over}

-- the first word of a row, and word 0 of the row
pub head_cell : (w : List ℕ) (r : ℕ) → get_or w (145 * r) 0 ≡ cell w r 0
head_cell w r = ap (λ (z : ℕ). get_or w z 0) (omega arith)

-- one of the three windows of a row
added_window : (m c i k o len : ℕ) (w w' : List ℕ) → o + len ≤ 145
    → ((j : ℕ) → j < len → cell w' k (o + j) ≡ (cell w k (o + j) + c * cell w i (o + j)) % suc m)
    → ((r j : ℕ) → j < 145 → r ≢ k → cell w' r j ≡ cell w r j) → AddedWords m i k c (window o len w) (window o len w')
added_window m c i k o len w w' fits new old = record { new = λ j. fresh j (dec_lt j len); old = λ r j z. kept r j z (dec_lt j len) }
  where
    fresh : (j : ℕ) → Dec (j < len) → window o len w' k j % suc m ≡ (window o len w k j + c * window o len w i j) % suc m
    fresh j (yes l) =
        ap (λ (z : ℕ). z % suc m) (window_at o len w' k j l ∙ new j l) ∙ mod-mod _ (suc m)
        ∙ ap₂ (λ (x y : ℕ). (x + c * y) % suc m) (sym (window_at o len w k j l)) (sym (window_at o len w i j l))
    fresh j (no l) =
        ap (λ (z : ℕ). z % suc m) (window_over o len w' k j (omega arith) ∙ none c)
        ∙ ap₂ (λ (x y : ℕ). (x + c * y) % suc m) (sym (window_over o len w k j (omega arith))) (sym (window_over o len w i j (omega arith)))
      where
        none : (c : ℕ) → 0 ≡ 0 + c * 0
        none c = omega arith

    kept : (r j : ℕ) → r ≢ k → Dec (j < len) → window o len w' r j ≡ window o len w r j
    kept r j z (yes l) = window_at o len w' r j l ∙ old r (o + j) (omega arith) z ∙ sym (window_at o len w r j l)
    kept r j z (no l) = window_over o len w' r j (omega arith) ∙ sym (window_over o len w r j (omega arith))

module _ {n c b d e i k : ℕ} {w w' : List ℕ} (a : PairAsked n b d e i k w) (ad : RowAdded n c b d e i k w w') where
  pos : 1 ≤ n
  pos = a.modulus

  shape : Shape b d e
  shape = a.shape

  band_below : ((r j : ℕ) → window 0 b w r j < n) → (r j : ℕ) → window 0 b w' r j < n
  band_below h r j = go (dec_lt j b) (ℕ_discrete r k)
    where
      go : Dec (j < b) → Dec (r ≡ k) → window 0 b w' r j < n
      go (yes l) (yes z) =
          subst (λ (x : ℕ). window 0 b w' x j < n) (sym z)
          (subst (λ (x : ℕ). x < n) (sym (window_at 0 b w' k j l ∙ ad.words j l)) (mod-lt _ pos))
      go (yes l) (no z) =
          subst (λ (x : ℕ). x < n)
          (window_at 0 b w r j l ∙ sym (ad.others r (0 + j) (omega (arith, shape.most)) z) ∙ sym (window_at 0 b w' r j l)) (h r j)
      go (no l) z = subst (λ (x : ℕ). x < n) (sym (window_over 0 b w' r j (omega arith))) pos

  head_other : (r : ℕ) → r ≢ k → get_or w' (145 * r) 0 ≡ get_or w (145 * r) 0
  head_other r z = head_cell w' r ∙ ad.others r 0 (omega arith) z ∙ sym (head_cell w r)

  head_own : get_or w' (145 * k) 0 ≡ (get_or w (145 * k) 0 + c * get_or w (145 * i) 0) % n
  head_own =
      head_cell w' k ∙ ad.words 0 (omega (arith, shape.first))
      ∙ ap₂ (λ (x y : ℕ). (x + c * y) % n) (sym (head_cell w k)) (sym (head_cell w i))

  pub row_keeps : KeepsTwo n b d e i k w w'
  row_keeps = record {
    same = ad.same;
    band = λ f g s l p q x hi hk t. record {
      live = rows n pos ad f g s l p q x hi hk t.live;
      below = band_below t.below;
      factor = t.factor;
    };
    heads = λ h. record { at = λ r. below h r (ℕ_discrete r k) };
    others = λ r z y. head_other r y;
  }
    where
      rows : (n : ℕ) → 1 ≤ n → RowAdded n c b d e i k w w' → (f g : List ℕ) (s l p q x : ℕ) → i < l → k < l
          → LiveWords (pred n) f g s l p q x (window 0 b w) (window 49 e w) (window 97 d w)
          → LiveWords (pred n) f g s l p q x (window 0 b w') (window 49 e w') (window 97 d w')
      rows zero pos ad f g s l p q x hi hk t = absurd (omega arith)
      rows (suc m) pos ad f g s l p q x hi hk t =
          words_add m f g i k c hi hk a.apart
          (added_window m c i k 0 b w w' (omega (arith, shape.most)) ad.words ad.others)
          (added_window m c i k 49 e w w' (omega (arith, shape.second, shape.most)) ad.first ad.others)
          (added_window m c i k 97 d w w' (omega (arith, shape.first, shape.most)) ad.second ad.others) t

      below : HeadsBelow n w → (r : ℕ) → Dec (r ≡ k) → get_or w' (145 * r) 0 < n
      below h r (yes z) =
          subst (λ (x : ℕ). get_or w' (145 * x) 0 < n) (sym z) (subst (λ (x : ℕ). x < n) (sym head_own) (mod-lt _ pos))
      below h r (no z) = subst (λ (x : ℕ). x < n) (sym (head_other r z)) (h.at r)

-- ---- remainders

quotient : (n a b : ℕ) → a < n → 1 ≤ b → a / b ≤ n
quotient n a b l one = go (a / b) b (a % b) one (div-add-mod a b)
  where
    go : (q b s : ℕ) → 1 ≤ b → b * q + s ≡ a → q ≤ n
    go q zero s one e = absurd (omega arith)
    go q (suc b) s one e = omega arith

-- a + (n - q) b leaves what the division of a by b leaves
left_over : (n a b : ℕ) → a < n → 1 ≤ b → (a + (n - a / b) * b) % n ≡ a % b
left_over n a b l one =
    ap (λ (w : ℕ). w % n) (split (a / b) (a % b) (n - a / b) (div-add-mod a b) (omega (arith, quotient n a b l one)))
    ∙ add-mul-mod_self_left (a % b) n b ∙ mod-eq_of_lt (omega (arith, div-add-mod a b))
  where
    split : (q s t : ℕ) → b * q + s ≡ a → n ≡ q + t → a + t * b ≡ s + n * b
    split q s t e h = omega (arith, ap (λ (w : ℕ). w * b) h)

keeps_flip : {n b d e i k : ℕ} {w w' : List ℕ} → KeepsTwo n b d e i k w w' → KeepsTwo n b d e k i w w'
keeps_flip t = record {
  same = t.same;
  band = λ f g s l p q x hi hk. t.band f g s l p q x hk hi;
  heads = t.heads;
  others = λ r z y. t.others r y z;
}

asked_flip : {n b d e i k : ℕ} {w : List ℕ} → PairAsked n b d e i k w → PairAsked n b d e k i w
asked_flip a = record {
  modulus = a.modulus;
  shape = a.shape;
  row = a.other;
  other = a.row;
  apart = λ h. a.apart (sym h);
  room = a.room;
}

pub quotient_below : {n : ℕ} {w : List ℕ} (i k : ℕ) → HeadsBelow n w → 1 ≤ get_or w (145 * k) 0
    → get_or w (145 * i) 0 / get_or w (145 * k) 0 ≤ n
quotient_below {n} {w} i k h one = quotient n (get_or w (145 * i) 0) (get_or w (145 * k) 0) (h.at i) one

pub row_reduced : {n b d e i k : ℕ} {w w' : List ℕ} → PairAsked n b d e i k w → HeadsBelow n w → 1 ≤ get_or w (145 * k) 0
    → RowAdded n (n - get_or w (145 * i) 0 / get_or w (145 * k) 0) b d e k i w w' → RowReduced n b d e i k w w'
row_reduced {n} {b} {d} {e} {i} {k} {w} {w'} a heads one ad = record {
  keeps = keeps_flip (row_keeps (asked_flip a) ad);
  remainder = head_own (asked_flip a) ad ∙ left_over n (get_or w (145 * i) 0) (get_or w (145 * k) 0) (heads.at i) one;
  divisor = head_other (asked_flip a) ad k (λ h. a.apart (sym h));
}

-- ---- one step after another

pub keeps_none : {n b d e i k : ℕ} {w : List ℕ} → KeepsTwo n b d e i k w w
keeps_none = record { same = refl; band = λ f g s l p q x hi hk t. t; heads = λ h. h; others = λ r z y. refl }

keeps_both : {n b d e i k : ℕ} {w w' w'' : List ℕ} → KeepsTwo n b d e i k w w' → KeepsTwo n b d e i k w' w'' → KeepsTwo n b d e i k w w''
keeps_both t u = record {
  same = u.same ∙ t.same;
  band = λ f g s l p q x hi hk y. u.band f g s l p q x hi hk (t.band f g s l p q x hi hk y);
  heads = λ h. u.heads (t.heads h);
  others = λ r z y. u.others r z y ∙ t.others r z y;
}

asked_next : {n b d e i k : ℕ} {w w' : List ℕ} → PairAsked n b d e i k w → length w' ≡ length w → PairAsked n b d e i k w'
asked_next a h = record {
  modulus = a.modulus;
  shape = a.shape;
  row = a.row;
  other = a.other;
  apart = a.apart;
  room = omega (arith, a.room, h);
}

-- what the loop keeps, between its rounds: the row i by the row k, then the row k by the row i
pub record Alternating (n b d e i k : ℕ) (w₀ w : List ℕ) : Type 0 where
  pub keeps : KeepsTwo n b d e i k w₀ w
  pub heads : HeadsBelow n w

pub alternating_none : {n b d e i k : ℕ} {w : List ℕ} → HeadsBelow n w → Alternating n b d e i k w w
alternating_none h = record { keeps = keeps_none; heads = h }

pub alternating_asked : {n b d e i k : ℕ} {w₀ w : List ℕ} → PairAsked n b d e i k w₀ → Alternating n b d e i k w₀ w
    → PairAsked n b d e i k w
alternating_asked a t = asked_next a t.keeps.same

module _ {n b d e i k : ℕ} {w₀ w₁ w₂ : List ℕ} (before : Alternating n b d e i k w₀ w₁) (first : RowReduced n b d e i k w₁ w₂) where
  half : KeepsTwo n b d e i k w₀ w₂
  half = keeps_both before.keeps first.keeps

  pub half_asked : PairAsked n b d e i k w₀ → PairAsked n b d e k i w₂
  half_asked a = asked_flip (asked_next a half.same)

  pub half_heads : HeadsBelow n w₂
  half_heads = first.keeps.heads before.heads

  pub round_kept : {w₃ : List ℕ} → RowReduced n b d e k i w₂ w₃ → Alternating n b d e i k w₀ w₃
  round_kept t = record { keeps = keeps_both half (keeps_flip t.keeps); heads = t.keeps.heads half_heads }

  pub round_falls : {w₃ : List ℕ} → RowReduced n b d e k i w₂ w₃ → (get_or w₁ (145 * k) 0 ≡ 0 → ⊥) → (get_or w₂ (145 * i) 0 ≡ 0 → ⊥)
      → get_or w₃ (145 * k) 0 < get_or w₁ (145 * k) 0
  round_falls {w₃} t p q =
      omega (
        arith,
        t.remainder,
        first.remainder,
        mod-lt (get_or w₂ (145 * k) 0) {m = get_or w₂ (145 * i) 0} (omega arith),
        mod-lt (get_or w₁ (145 * i) 0) {m = get_or w₁ (145 * k) 0} (omega arith),
      )

  pub round_ends : get_or w₂ (145 * i) 0 ≡ 0 → RowCleared n b d e i k k w₀ w₂
  round_ends z = record {
    keeps = half;
    pivot = inr refl;
    zero = λ r. elim [ inl h ↦ λ y. ap (λ (x : ℕ). get_or w₂ (145 * x) 0) h ∙ z | inr h ↦ λ y. absurd (y h) ];
  }

left_with : {n b d e i k : ℕ} {w₀ w : List ℕ} → KeepsTwo n b d e i k w₀ w → get_or w (145 * k) 0 ≡ 0 → RowCleared n b d e i k i w₀ w
left_with {n} {b} {d} {e} {i} {k} {w₀} {w} t z = record {
  keeps = t;
  pivot = inl refl;
  zero = λ r. elim [ inl h ↦ λ y. absurd (y h) | inr h ↦ λ y. ap (λ (x : ℕ). get_or w (145 * x) 0) h ∙ z ];
}

pub round_done : {n b d e i k : ℕ} {w₀ w : List ℕ} → Alternating n b d e i k w₀ w → get_or w (145 * k) 0 ≡ 0 → RowCleared n b d e i k i w₀ w
round_done t z = left_with t.keeps z

-- nothing to clear, or the multiple first
pub cleared_none : {n b d e i k : ℕ} {w : List ℕ} → get_or w (145 * k) 0 ≡ 0 → RowCleared n b d e i k i w w
cleared_none z = left_with keeps_none z

pub cleared_same : {n b d e i k : ℕ} {w : List ℕ} → i ≡ k → RowCleared n b d e i k i w w
cleared_same {n} {b} {d} {e} {i} {k} {w} z = record {
  keeps = keeps_none;
  pivot = inl refl;
  zero = λ r. elim [ inl h ↦ λ y. absurd (y h) | inr h ↦ λ y. absurd (y (h ∙ sym z)) ];
}

pub cleared_after : {n b d e i k t : ℕ} {w w' w'' : List ℕ} → KeepsTwo n b d e i k w w' → RowCleared n b d e i k t w' w''
    → RowCleared n b d e i k t w w''
cleared_after u c = record { keeps = keeps_both u c.keeps; pivot = c.pivot; zero = c.zero }

-- ---- bounds of the words that a multiple is made of

pub divisor_positive : {n x g s : ℕ} → GcdCofactor n x g s → 1 ≤ n → 0 < g
divisor_positive c pos = pos_of_dvd_of_pos c.gcd.left pos

pub residue_below : (r a n : ℕ) → r ≡ a % n → 1 ≤ n → r ≤ n
residue_below r a n h pos = omega (arith, h, mod-lt a {m = n} pos)

pub ruleset reductions = (rules, quotient_below, row_reduced)

pub ruleset multiples = (rules, divisor_positive, residue_below, keeps_none, row_keeps)

pub ruleset alternations = (alternating_none, alternating_asked, half_asked, half_heads, round_kept, round_falls, round_ends, round_done)
