-- Words of rows, as the leaves change them.
--
--   window_at, window_over      the words of a window of a row
--   moved_in, moved-out         a leaf that works from row i to row k, at the same places of both
--   added_rows                  three of them make a row added to a row
use mathlib.Core.Path.{◌≡◌, refl, sym, ap, ap₂, ◌∙◌}
use mathlib.Core.Logic.{◌≢◌}
use mathlib.Core.List.{List}
use Prim.Native.Nat.{ℕ, ◌+◌, ◌*◌, ◌%◌, ◌<◌, ◌≤◌}
use native.Mathlib.Decide.{dec_lt}
use native.Mathlib.Omega.{arith}
use lib.ListN.{get_or}
use Rattle.windows.specs.Window.{Moved, addMul}
use Rattle.windows.proofs.Leaf.{piece_at, piece_over}
use Rattle.band_clearing.specs.Bands.{cell, window, Shape, PairAsked, RowAdded}

pub window_at : (o len : ℕ) (w : List ℕ) (r c : ℕ) → c < len → window o len w r c ≡ cell w r (o + c)
window_at o len w r c l = piece_at w (145 * r + o) len c l ∙ ap (λ (z : ℕ). get_or w z 0) (omega arith)

pub window_over : (o len : ℕ) (w : List ℕ) (r c : ℕ) → len ≤ c → window o len w r c ≡ 0
window_over o len w r c l = piece_over w (145 * r + o) len c l

module _ {op : ℕ → ℕ → ℕ} (i k o src dst len : ℕ) {w w' : List ℕ} (es : src ≡ 145 * i + o) (ed : dst ≡ 145 * k + o) (fits : o + len ≤ 145)
    (mv : Moved op src dst len w w') where
  pub moved_in : (j : ℕ) → j < len → cell w' k (o + j) ≡ op (cell w k (o + j)) (cell w i (o + j))
  moved_in j l =
      ap (λ (z : ℕ). get_or w' z 0) to ∙ mv.mid j l ∙ ap₂ op (ap (λ (z : ℕ). get_or w z 0) (sym to)) (ap (λ (z : ℕ). get_or w z 0) from)
    where
      to : 145 * k + (o + j) ≡ dst + j
      to = omega arith

      from : src + j ≡ 145 * i + (o + j)
      from = omega arith

  pub moved_other : (r j : ℕ) → j < 145 → r ≢ k → cell w' r j ≡ cell w r j
  moved_other r j l z = go (dec_lt r k)
    where
      go : Dec (r < k) → cell w' r j ≡ cell w r j
      go (yes t) = mv.low (145 * r + j) (omega arith)
      go (no t) = let u : k < r = omega arith in mv.high (145 * r + j) (omega arith)

  pub moved_before : (j : ℕ) → j < o → cell w' k j ≡ cell w k j
  moved_before j l = mv.low (145 * k + j) (omega arith)

  pub moved_after : (j : ℕ) → o + len ≤ j → cell w' k j ≡ cell w k j
  moved_after j l = mv.high (145 * k + j) (omega arith)

-- the words, the first multiplier and the second
pub added_rows : {n c b d e i k : ℕ} {w₀ w₁ w₂ w₃ : List ℕ} → PairAsked n b d e i k w₀ → Moved (addMul n c) (145 * i) (145 * k) b w₀ w₁
    → Moved (addMul n c) (145 * i + 49) (145 * k + 49) e w₁ w₂ → Moved (addMul n c) (145 * i + 97) (145 * k + 97) d w₂ w₃
    → RowAdded n c b d e i k w₀ w₃
added_rows {n} {c} {b} {d} {e} {i} {k} {w₀} {w₁} {w₂} {w₃} p x y z = record {
  same = z.same ∙ y.same ∙ x.same;
  words = λ j l. moved_before i k 97 _ _ d refl refl ld z (0 + j) (omega (arith, lb)) ∙ moved_before i k 49 _ _ e refl refl le y (0 + j)
      (omega (arith, lb)) ∙ moved_in i k 0 _ _ b (zero i) (zero k) lw x j l;
  first = λ j l. moved_before i k 97 _ _ d refl refl ld z (49 + j) (omega (arith, lb, shape)) ∙ moved_in i k 49 _ _ e refl refl le y j l
      ∙ ap₂ (λ (x y : ℕ). (x + c * y) % n) (moved_after i k 0 _ _ b (zero i) (zero k) lw x (49 + j) (omega (arith, lb)))
      (moved_other i k 0 _ _ b (zero i) (zero k) lw x i (49 + j) (omega (arith, lb, shape)) p.apart);
  second = λ j l. moved_in i k 97 _ _ d refl refl ld z j l ∙ ap₂ (λ (x y : ℕ). (x + c * y) % n)
      (moved_after i k 49 _ _ e refl refl le y (97 + j) (omega (arith, lb, shape))
      ∙ moved_after i k 0 _ _ b (zero i) (zero k) lw x (97 + j) (omega (arith, lb)))
      (moved_other i k 49 _ _ e refl refl le y i (97 + j) (omega (arith, lb, shape)) p.apart
      ∙ moved_other i k 0 _ _ b (zero i) (zero k) lw x i (97 + j) (omega (arith, lb, shape)) p.apart);
  others = λ r j l q. moved_other i k 97 _ _ d refl refl ld z r j l q ∙ moved_other i k 49 _ _ e refl refl le y r j l q
      ∙ moved_other i k 0 _ _ b (zero i) (zero k) lw x r j l q;
}
  where
    shape : Shape b d e
    shape = p.shape

    lb : b ≤ 49
    lb = shape.most

    lw : 0 + b ≤ 145
    lw = omega (arith, lb)

    le : 49 + e ≤ 145
    le = omega (arith, lb, shape.second)

    ld : 97 + d ≤ 145
    ld = omega (arith, lb, shape.first)

    zero : (r : ℕ) → 145 * r ≡ 145 * r + 0
    zero r = omega arith
