-- A round of the loop over the columns, on the rows in the buffer: rows come in, and the row with the column's only word leaves.
--
--   entered_row                 a row that comes in, by its windows
--   entering_both, entering_first, entering_second, entering_none    the rows of a column are in
--   leaving_last, leaving_other     a row leaves, and the others are one column on
--   band_cast                   the same numbers, the same rows
use mathlib.Core.Path.{◌≡◌, refl, sym, ap, ap₂, ◌∙◌, subst}
use mathlib.Core.Logic.{◌≢◌, ◌⊎◌, inl, inr}
use mathlib.Core.List.{List}
use Prim.Native.Nat.{ℕ, zero, suc, pred, ◌+◌, ◌*◌, ◌-◌, ◌%◌, ◌<◌, ◌≤◌}
use native.Mathlib.Decide.{dec_lt, ℕ_discrete}
use native.Mathlib.Nat.{mod-lt}
use native.Mathlib.Omega.{arith}
use lib.ListN.{length, get_or}
use Rattle.definitions.specs.Polynomials.{coef, deg, Residues}
use Rattle.law_polynomials.specs.ResultantLaws.{signed}
use Rattle.resultant_signs.specs.Degrees.{deg_of}
use Rattle.windows.specs.Window.{Moved, second}
use Rattle.law_rows.specs.LiveWords.{LiveWords}
use Rattle.law_rows.specs.WordSteps.{Entered, signed_below, words_enter_both, words_enter_first, words_enter_second}
use Rattle.law_rows.specs.WordSteps.{words_enter_none, words_leave_last, words_leave}
use Rattle.band_clearing.specs.Bands.{cell, window, from_top, Shape, Band, RowEntered, Shifted}
use Rattle.band_clearing.proofs.Cells.{window_at, window_over, moved_in, moved_other}
use Rattle.band_clearing.proofs.TwoRows.{head_cell}

pub band_cast : {n : ℕ} {f g : List ℕ} {b d e s l l' p p' q q' x : ℕ} {w : List ℕ} → l ≡ l' → p ≡ p' → q ≡ q'
    → Band n f g b d e s l p q x w → Band n f g b d e s l' p' q' x w
band_cast {n} {f} {g} {b} {d} {e} {s} {l} {l'} {p} {p'} {q} {q'} {x} {w} hl hp hq t =
    subst (λ (z : ℕ). Band n f g b d e s z p' q' x w) hl
    (subst (λ (z : ℕ). Band n f g b d e s l z q' x w) hp (subst (λ (z : ℕ). Band n f g b d e s l p z x w) hq t))

-- word c of the words of a row
word_at : (b : ℕ) (w : List ℕ) (r c : ℕ) → c < b → window 0 b w r c ≡ cell w r c
word_at b w r c l = window_at 0 b w r c l ∙ ap (λ (z : ℕ). cell w r z) (omega arith)

-- a row whose cells are those of another
pub window_same : (o len : ℕ) (w w' : List ℕ) (r r' : ℕ) → o + len ≤ 145 → ((j : ℕ) → j < 145 → cell w' r' j ≡ cell w r j)
    → (c : ℕ) → window o len w' r' c ≡ window o len w r c
window_same o len w w' r r' fits h c = go (dec_lt c len)
  where
    go : Dec (c < len) → window o len w' r' c ≡ window o len w r c
    go (yes l) = window_at o len w' r' c l ∙ h (o + c) (omega arith) ∙ sym (window_at o len w r c l)
    go (no l) = window_over o len w' r' c (omega arith) ∙ sym (window_over o len w r c (omega arith))

-- ---- a row that comes in: its multiplier at o has k words, the other, at o', has k'
module _ (b dh r : ℕ) (h : List ℕ) (o p o' k k' : ℕ) (w w' : List ℕ) (lh : length h ≡ dh + 1) (fits : dh < b) (most : b ≤ 49)
    (low : 49 ≤ o) (room : o + k ≤ 145) (low' : 49 ≤ o') (room' : o' + k' ≤ 145) (power : p < k)
    (apart : (j : ℕ) → j < k' → o' + j ≢ o + p) (e : RowEntered r h o p w w') where
  dg : deg h ≡ dh
  dg = deg_of h dh lh

  pub entered_row : Entered h p (window 0 b w' r) (window o k w' r) (window o' k' w' r)
  entered_row = record {
    head = λ c l. word_at b w' r c (omega (arith, dg)) ∙ e.head c (omega (arith, dg)) ∙ ap (λ (z : ℕ). get_or h z 0) (top c l);
    rest = λ c l. past c l (dec_lt c b);
    one = window_at o k w' r p power ∙ e.one;
    none = λ j z. nil j z (dec_lt j k);
    other = λ j. none j (dec_lt j k');
  }
    where
      top : (c : ℕ) → c ≤ deg h → length h - 1 - c ≡ deg h - c
      top c l = omega (arith, dg, lh)

      past : (c : ℕ) → deg h < c → Dec (c < b) → window 0 b w' r c ≡ 0
      past c l (yes t) = word_at b w' r c t ∙ e.rest c (omega (arith, dg, lh)) (omega arith)
      past c l (no t) = window_over 0 b w' r c (omega arith)

      nil : (j : ℕ) → j ≢ p → Dec (j < k) → window o k w' r j ≡ 0
      nil j z (yes t) = window_at o k w' r j t ∙ e.none (o + j) (omega arith) (omega arith) (λ y. z (omega arith))
      nil j z (no t) = window_over o k w' r j (omega arith)

      none : (j : ℕ) → Dec (j < k') → window o' k' w' r j ≡ 0
      none j (yes t) = window_at o' k' w' r j t ∙ e.none (o' + j) (omega arith) (omega arith) (apart j t)
      none j (no t) = window_over o' k' w' r j (omega arith)

  -- its words are residues, and so are those of the other rows
  pub entered_below : (n : ℕ) → 1 ≤ n → Residues n h → ((i c : ℕ) → window 0 b w i c < n) → (i c : ℕ) → window 0 b w' i c < n
  entered_below n pos res old i c = go (ℕ_discrete i r) (dec_lt c b)
    where
      own : (c : ℕ) → c < b → Dec (c < length h) → cell w' r c < n
      own c l (yes t) = subst (λ (z : ℕ). z < n) (sym (e.head c t)) (res.at (length h - 1 - c) (omega arith))
      own c l (no t) = subst (λ (z : ℕ). z < n) (sym (e.rest c (omega arith) (omega arith))) pos

      go : Dec (i ≡ r) → Dec (c < b) → window 0 b w' i c < n
      go (yes z) (yes t) =
          subst (λ (j : ℕ). window 0 b w' j c < n) (sym z)
          (subst (λ (y : ℕ). y < n) (sym (word_at b w' r c t)) (own c t (dec_lt c (length h))))
      go z (no t) = subst (λ (y : ℕ). y < n) (sym (window_over 0 b w' i c (omega arith))) pos
      go (no z) (yes t) =
          subst (λ (y : ℕ). y < n) (sym (window_same 0 b w w' i i (omega arith) (λ j l. e.others i j l z) c)) (old i c)

module _ (n : ℕ) (f g : List ℕ) (b d e : ℕ) (two : 2 ≤ n) (shape : Shape b d e) (lf : length f ≡ d + 1) (lg : length g ≡ e + 1)
    (rf : Residues n f) (rg : Residues n g) where
  lb : b ≤ 49
  lb = shape.most

  ld : d < b
  ld = shape.first

  le : e < b
  le = shape.second

  fit_w : 0 + b ≤ 145
  fit_w = omega (arith, lb)

  fit_x : 49 + e ≤ 145
  fit_x = omega (arith, lb, le)

  fit_y : 97 + d ≤ 145
  fit_y = omega (arith, lb, ld)

  first_row : (l p : ℕ) (w w' : List ℕ) → p < e → RowEntered l f 49 p w w'
      → Entered f p (window 0 b w' l) (window 49 e w' l) (window 97 d w' l)
  first_row l p w w' lp t =
      entered_row b d l f 49 p 97 e d w w' lf ld lb (omega arith) fit_x (omega arith) fit_y lp (λ j y z. omega (arith, lb, le)) t

  second_row : (l q : ℕ) (w w' : List ℕ) → q < d → RowEntered l g 97 q w w'
      → Entered g q (window 0 b w' l) (window 97 d w' l) (window 49 e w' l)
  second_row l q w w' lq t =
      entered_row b e l g 97 q 49 d e w w' lg le lb (omega arith) fit_y (omega arith) fit_x lq (λ j y z. omega (arith, lb, le)) t

  first_below : (l p : ℕ) (w w' : List ℕ) → p < e → RowEntered l f 49 p w w' → ((i c : ℕ) → window 0 b w i c < n)
      → (i c : ℕ) → window 0 b w' i c < n
  first_below l p w w' lp t =
      entered_below b d l f 49 p 97 e d w w' lf ld lb (omega arith) fit_x (omega arith) fit_y lp (λ j y z. omega (arith, lb, le)) t n
      (omega (arith, two)) rf

  second_below : (l q : ℕ) (w w' : List ℕ) → q < d → RowEntered l g 97 q w w' → ((i c : ℕ) → window 0 b w i c < n)
      → (i c : ℕ) → window 0 b w' i c < n
  second_below l q w w' lq t =
      entered_below b e l g 97 q 49 d e w w' lg le lb (omega arith) fit_y (omega arith) fit_x lq (λ j y z. omega (arith, lb, le)) t n
      (omega (arith, two)) rg

  kept_row : (r : ℕ) (h : List ℕ) (o p : ℕ) (w w' : List ℕ) → RowEntered r h o p w w'
      → (at len : ℕ) → at + len ≤ 145 → (i c : ℕ) → i ≢ r → window at len w' i c ≡ window at len w i c
  kept_row r h o p w w' t at len fit i c z = window_same at len w w' i i fit (λ j y. t.others i j y z) c

  pub entering_both : (l p q x : ℕ) (w₀ w₁ w₂ : List ℕ) → l + suc q ≡ d → l + suc p ≡ e → RowEntered l f 49 p w₀ w₁
      → RowEntered (suc l) g 97 q w₁ w₂ → Band n f g b d e 0 l (suc p) (suc q) x w₀ → Band n f g b d e 1 (suc (suc l)) p q (signed n p x) w₂
  entering_both l p q x w₀ w₁ w₂ hd he F G t = record {
    live = live n two t.live t.factor;
    below = second_below (suc l) q w₁ w₂ (omega arith) G (first_below l p w₀ w₁ (omega arith) F t.below);
    factor = small n two t.factor;
  }
    where
      low : (at len : ℕ) → at + len ≤ 145 → (i c : ℕ) → i < l → window at len w₂ i c ≡ window at len w₀ i c
      low at len fit i c y =
          kept_row (suc l) g 97 q w₁ w₂ G at len fit i c (λ z. omega arith) ∙ kept_row l f 49 p w₀ w₁ F at len fit i c (λ z. omega arith)

      mid : (at len : ℕ) → at + len ≤ 145 → (c : ℕ) → window at len w₁ l c ≡ window at len w₂ l c
      mid at len fit c = sym (kept_row (suc l) g 97 q w₁ w₂ G at len fit l c (λ z. omega arith))

      first : Entered f p (window 0 b w₂ l) (window 49 e w₂ l) (window 97 d w₂ l)
      first =
          let a = first_row l p w₀ w₁ (omega arith) F in
          record {
            head = λ c h. sym (mid 0 b fit_w c) ∙ a.head c h;
            rest = λ c h. sym (mid 0 b fit_w c) ∙ a.rest c h;
            one = sym (mid 49 e fit_x p) ∙ a.one;
            none = λ c h. sym (mid 49 e fit_x c) ∙ a.none c h;
            other = λ c. sym (mid 97 d fit_y c) ∙ a.other c;
          }

      live : (n : ℕ) → 2 ≤ n → LiveWords (pred n) f g 0 l (suc p) (suc q) x (window 0 b w₀) (window 49 e w₀) (window 97 d w₀) → x < n
          → LiveWords (pred n) f g 1 (suc (suc l)) p q (signed n p x) (window 0 b w₂) (window 49 e w₂) (window 97 d w₂)
      live zero h u y = absurd (omega arith)
      live (suc m) h u y =
          words_enter_both m f g (hd ∙ sym (deg_of f d lf)) (he ∙ sym (deg_of g e lg)) y
          (low 0 b fit_w) (low 49 e fit_x) (low 97 d fit_y) first (second_row (suc l) q w₁ w₂ (omega arith) G) u

      small : (n : ℕ) → 2 ≤ n → x < n → signed n p x < n
      small zero h y = absurd (omega arith)
      small (suc m) h y = signed_below m p x y

  pub entering_first : (l p x : ℕ) (w₀ w₁ : List ℕ) → p < e → l ≡ d → RowEntered l f 49 p w₀ w₁
      → Band n f g b d e 0 l (suc p) 0 x w₀ → Band n f g b d e 1 (suc l) p 0 x w₁
  entering_first l p x w₀ w₁ hp hl F t = record {
    live = live n two t.live;
    below = first_below l p w₀ w₁ hp F t.below;
    factor = t.factor;
  }
    where
      low : (at len : ℕ) → at + len ≤ 145 → (i c : ℕ) → i < l → window at len w₁ i c ≡ window at len w₀ i c
      low at len fit i c y = kept_row l f 49 p w₀ w₁ F at len fit i c (λ z. omega arith)

      live : (n : ℕ) → 2 ≤ n → LiveWords (pred n) f g 0 l (suc p) 0 x (window 0 b w₀) (window 49 e w₀) (window 97 d w₀)
          → LiveWords (pred n) f g 1 (suc l) p 0 x (window 0 b w₁) (window 49 e w₁) (window 97 d w₁)
      live zero h u = absurd (omega arith)
      live (suc m) h u =
          words_enter_first m f g (subst (λ (z : ℕ). p < z) (sym (deg_of g e lg)) hp) (hl ∙ sym (deg_of f d lf))
          (low 0 b fit_w) (low 49 e fit_x) (low 97 d fit_y) (first_row l p w₀ w₁ hp F) u

  pub entering_second : (l q x : ℕ) (w₀ w₁ : List ℕ) → q < d → l ≡ e → RowEntered l g 97 q w₀ w₁
      → Band n f g b d e 0 l 0 (suc q) x w₀ → Band n f g b d e 1 (suc l) 0 q x w₁
  entering_second l q x w₀ w₁ hq hl G t = record {
    live = live n two t.live;
    below = second_below l q w₀ w₁ hq G t.below;
    factor = t.factor;
  }
    where
      low : (at len : ℕ) → at + len ≤ 145 → (i c : ℕ) → i < l → window at len w₁ i c ≡ window at len w₀ i c
      low at len fit i c y = kept_row l g 97 q w₀ w₁ G at len fit i c (λ z. omega arith)

      live : (n : ℕ) → 2 ≤ n → LiveWords (pred n) f g 0 l 0 (suc q) x (window 0 b w₀) (window 49 e w₀) (window 97 d w₀)
          → LiveWords (pred n) f g 1 (suc l) 0 q x (window 0 b w₁) (window 49 e w₁) (window 97 d w₁)
      live zero h u = absurd (omega arith)
      live (suc m) h u =
          words_enter_second m f g (subst (λ (z : ℕ). q < z) (sym (deg_of f d lf)) hq) (hl ∙ sym (deg_of g e lg))
          (low 0 b fit_w) (low 49 e fit_x) (low 97 d fit_y) (second_row l q w₀ w₁ hq G) u

  pub entering_none : (l x : ℕ) (w : List ℕ) → Band n f g b d e 0 l 0 0 x w → Band n f g b d e 1 l 0 0 x w
  entering_none l x w t = record { live = words_enter_none (pred n) f g t.live; below = t.below; factor = t.factor }

-- ---- a row leaves

-- one column on, by the windows
module _ {l b : ℕ} {w w' : List ℕ} (most : b ≤ 49) (some : 1 ≤ b) (s : Shifted l b w w') where
  pub shifted_words : (i c : ℕ) → i < l → window 0 b w' i c ≡ window 0 b w i (suc c)
  shifted_words i c h = go (dec_lt (suc c) b) (ℕ_discrete (suc c) b)
    where
      go : Dec (suc c < b) → Dec (suc c ≡ b) → window 0 b w' i c ≡ window 0 b w i (suc c)
      go (yes t) z = word_at b w' i c (omega arith) ∙ s.at i c h t ∙ sym (word_at b w i (suc c) t)
      go (no t) (yes z) =
          word_at b w' i c (omega arith) ∙ ap (λ (j : ℕ). cell w' i j) (omega arith) ∙ s.last i h
          ∙ sym (window_over 0 b w i (suc c) (omega arith))
      go (no t) (no z) = window_over 0 b w' i c (omega arith) ∙ sym (window_over 0 b w i (suc c) (omega arith))

  pub shifted_upper : (o len : ℕ) → 49 ≤ o → o + len ≤ 145 → (i c : ℕ) → i < l → window o len w' i c ≡ window o len w i c
  shifted_upper o len low fit i c h = go (dec_lt c len)
    where
      go : Dec (c < len) → window o len w' i c ≡ window o len w i c
      go (yes t) = window_at o len w' i c t ∙ s.upper i (o + c) h (omega arith) (omega arith) ∙ sym (window_at o len w i c t)
      go (no t) = window_over o len w' i c (omega arith) ∙ sym (window_over o len w i c (omega arith))

  pub shifted_below : (n : ℕ) → ((r c : ℕ) → window 0 b w r c < n) → (r c : ℕ) → window 0 b w' r c < n
  shifted_below n old r c = go (dec_lt r l)
    where
      go : Dec (r < l) → window 0 b w' r c < n
      go (yes h) = subst (λ (z : ℕ). z < n) (sym (shifted_words r c h)) (old r (suc c))
      go (no h) = subst (λ (z : ℕ). z < n) (sym (window_same 0 b w w' r r (omega arith) (λ j t. s.others r j (omega arith) t) c)) (old r c)

-- the first word of a row by its window
pub head_word : (b : ℕ) (w : List ℕ) (r : ℕ) → 1 ≤ b → window 0 b w r 0 ≡ get_or w (145 * r) 0
head_word b w r h = word_at b w r 0 h ∙ sym (head_cell w r)

module _ (n : ℕ) (f g : List ℕ) (b d e l p q x : ℕ) (w : List ℕ) (pos : 1 ≤ n) (shape : Shape b d e)
    (t : Band n f g b d e 1 (suc l) p q x w) where
  lb' : b ≤ 49
  lb' = shape.most

  some' : 1 ≤ b
  some' = omega (arith, shape.first)

  fit_x' : 49 + e ≤ 145
  fit_x' = omega (arith, shape.most, shape.second)

  fit_y' : 97 + d ≤ 145
  fit_y' = omega (arith, shape.most, shape.first)

  product_below : (n k y : ℕ) → 1 ≤ n → signed n k (y % n) < n
  product_below zero k y h = absurd (omega arith)
  product_below (suc m) k y h = signed_below m k (y % suc m) (mod-lt y h)

  -- the last row
  pub leaving_last : (w' : List ℕ) → ((r : ℕ) → r < suc l → r ≢ l → get_or w (145 * r) 0 ≡ 0) → Shifted l b w w'
      → Band n f g b d e 0 l p q (signed n l ((x * get_or w (145 * l) 0) % n)) w'
  leaving_last w' z s = record {
    live = subst (λ (y : ℕ). LiveWords (pred n) f g 0 l p q (signed n l ((x * y) % n)) (window 0 b w') (window 49 e w') (window 97 d w'))
        (head_word b w l some') (live n pos t.live);
    below = shifted_below lb' some' s n t.below;
    factor = product_below n l (x * get_or w (145 * l) 0) pos;
  }
    where
      live : (n : ℕ) → 1 ≤ n → LiveWords (pred n) f g 1 (suc l) p q x (window 0 b w) (window 49 e w) (window 97 d w)
          → LiveWords (pred n) f g 0 l p q (signed n l ((x * window 0 b w l 0) % n)) (window 0 b w') (window 49 e w') (window 97 d w')
      live zero h u = absurd (omega arith)
      live (suc m) h u =
          words_leave_last m f g (λ i y. head_word b w i some' ∙ z i (omega arith) (λ v. omega arith)) (shifted_words lb' some' s)
          (shifted_upper lb' some' s 49 e (omega arith) fit_x') (shifted_upper lb' some' s 97 d (omega arith) fit_y') u

  -- the row k, and the last row takes its place
  pub leaving_other : (k : ℕ) (w₁ w' : List ℕ) → k < l → ((r : ℕ) → r < suc l → r ≢ k → get_or w (145 * r) 0 ≡ 0)
      → Moved second (145 * l) (145 * k) 145 w w₁ → Shifted l b w₁ w'
      → Band n f g b d e 0 l p q (signed n l (((n - x) % n * get_or w (145 * k) 0) % n)) w'
  leaving_other k w₁ w' lk z c s = record {
    live = subst (λ (y : ℕ). LiveWords (pred n) f g 0 l p q (signed n l (((n - x) % n * y) % n)) (window 0 b w') (window 49 e w')
        (window 97 d w')) (head_word b w k some') (live n pos t.live t.factor);
    below = shifted_below lb' some' s n copied;
    factor = product_below n l ((n - x) % n * get_or w (145 * k) 0) pos;
  }
    where
      src : 145 * l ≡ 145 * l + 0
      src = omega arith

      dst : 145 * k ≡ 145 * k + 0
      dst = omega arith

      own : (j : ℕ) → j < 145 → cell w₁ k j ≡ cell w l j
      own j h =
          ap (λ (y : ℕ). cell w₁ k y) (zero_add j) ∙ moved_in l k 0 (145 * l) (145 * k) 145 src dst (omega arith) c j h
          ∙ ap (λ (y : ℕ). cell w l y) (sym (zero_add j))
        where
          zero_add : (j : ℕ) → j ≡ 0 + j
          zero_add j = omega arith

      other : (r j : ℕ) → j < 145 → r ≢ k → cell w₁ r j ≡ cell w r j
      other = moved_other l k 0 (145 * l) (145 * k) 145 src dst (omega arith) c

      kept : (o len : ℕ) → o + len ≤ 145 → (i c : ℕ) → i ≢ k → window o len w₁ i c ≡ window o len w i c
      kept o len fit i c y = window_same o len w w₁ i i fit (λ j h. other i j h y) c

      taken : (o len : ℕ) → o + len ≤ 145 → (c : ℕ) → window o len w₁ k c ≡ window o len w l c
      taken o len fit c = window_same o len w w₁ l k fit own c

      copied : (r c : ℕ) → window 0 b w₁ r c < n
      copied r c = go (ℕ_discrete r k)
        where
          go : Dec (r ≡ k) → window 0 b w₁ r c < n
          go (yes y) =
              subst (λ (i : ℕ). window 0 b w₁ i c < n) (sym y)
              (subst (λ (v : ℕ). v < n) (sym (taken 0 b (omega (arith, lb')) c)) (t.below l c))
          go (no y) = subst (λ (v : ℕ). v < n) (sym (kept 0 b (omega (arith, lb')) r c y)) (t.below r c)

      live : (n : ℕ) → 1 ≤ n → LiveWords (pred n) f g 1 (suc l) p q x (window 0 b w) (window 49 e w) (window 97 d w) → x < n
          → LiveWords (pred n) f g 0 l p q (signed n l (((n - x) % n * window 0 b w k 0) % n)) (window 0 b w') (window 49 e w')
          (window 97 d w')
      live zero h u v = absurd (omega arith)
      live (suc m) h u v =
          words_leave m f g {W = window 0 b w} k lk v (λ i y h. head_word b w i some' ∙ z i y h)
          (λ i c y h. shifted_words lb' some' s i c y ∙ kept 0 b (omega (arith, lb')) i (suc c) h)
          (λ c. shifted_words lb' some' s k c lk ∙ taken 0 b (omega (arith, lb')) (suc c))
          (λ i c y h. shifted_upper lb' some' s 49 e (omega arith) fit_x' i c y ∙ kept 49 e fit_x' i c h)
          (λ c. shifted_upper lb' some' s 49 e (omega arith) fit_x' k c lk ∙ taken 49 e fit_x' c)
          (λ i c y h. shifted_upper lb' some' s 97 d (omega arith) fit_y' i c y ∙ kept 97 d fit_y' i c h)
          (λ c. shifted_upper lb' some' s 97 d (omega arith) fit_y' k c lk ∙ taken 97 d fit_y' c) u
