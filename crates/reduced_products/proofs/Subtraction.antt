-- The subtraction of a product, at any width: what a round keeps, two words of the first factor at a time.
--
--   Taking          the invariant of the loop
--   taking-…        its start, round and ends
--   pair_asked, first-…, second-…, factor_below, last-…    what the places in between ask
--   subtractions    the rules
use mathlib.Core.Path.{◌≡◌, refl, sym, ap, ap₂, subst, ◌∙◌, fun_ext}
use mathlib.Core.List.{List}
use mathlib.Core.Logic.{⊎_elim}
use Prim.Native.Nat.{ℕ, zero, suc, ◌+◌, ◌-◌, ◌*◌, ◌/◌, ◌%◌, ◌≤◌, ◌<◌}
use native.Mathlib.Omega.{arith}
use native.Mathlib.Nat.{mod-lt, zero-add, add-zero, add_assoc, mul-zero, div-add-mod, eq-or-lt_of_le, le_of_lt}
use native.Mathlib.Decide.{ℕ_discrete}
use borrow.Author.Rules.{rules}
use lib.ListN.{length, get_or, set, length-set}
use lib.Seq.{get_or-set_same, get_or-set_other}
use Rattle.law_numbers.specs.Congruence.{Cong, c_refl, c_trans, c_eq, c_add}
use Rattle.definitions.specs.Polynomials.{coef, convolve, Divided}
use Rattle.windows.specs.Window.{piece, Moved, addMul, Below, Around, Apart, PairAsked, Paired, behind}
use Rattle.windows.proofs.Leaf.{lt_or_le, piece_at, piece_over, apart_at}
use Rattle.window_division.proofs.DivisionRounds.{convolve_none, convolve_add, convolve_spot, spot, spot_off, spot_low, spot_at, risen}
use Rattle.window_division.proofs.DivisionRounds.{risen_at}
use Rattle.window_division.proofs.DivisionRounds.{risen_low, back}
use Rattle.window_division.proofs.Double.{back_two}
use Rattle.reduced_products.specs.Products.{ProductAsked, Factors, Subtracted}

-- the first j words of the first factor have been taken; l words stand at dst
pub record Subtracting (n p lp q lq dst l j : ℕ) (w₀ w : List ℕ) : Type 0 where
  pub around : Around dst l w₀ w
  pub below : Below n dst l w
  pub part : ℕ → ℕ
  pub done : (i : ℕ) → i < j → part i ≡ coef (piece w₀ p lp) i
  pub rest : (i : ℕ) → j ≤ i → part i ≡ 0
  pub at : (k : ℕ) → Cong n (convolve part (coef (piece w₀ q lq)) k + coef (piece w dst l) k) (coef (piece w₀ dst l) k)

subtracting_start : (n p lp q lq dst l : ℕ) (w : List ℕ) → Below n dst l w → Subtracting n p lp q lq dst l 0 w w
subtracting_start n p lp q lq dst l w b = record {
  around = record { same = refl; low = λ k h. refl; high = λ k h. refl };
  below = b;
  part = λ _. 0;
  done = λ i h. absurd (omega arith);
  rest = λ i h. refl;
  at = λ k. c_eq (ap (λ (x : ℕ). x + coef (piece w dst l) k) (convolve_none (coef (piece w q lq)) k) ∙ zero-add _);
}

subtracting_end : (n p lp q lq dst l j : ℕ) (w₀ w : List ℕ) → j ≡ lp → l ≡ lp + lq - 1 → Subtracting n p lp q lq dst l j w₀ w
    → Subtracted n p lp q lq dst w₀ w
subtracting_end n p lp q lq dst l j w₀ w e el s =
    subst (λ (x : ℕ). Around dst x w₀ w → Below n dst x w → Divided n (piece w₀ dst x) (piece w₀ q lq) (piece w₀ p lp) (piece w dst x)
    → Subtracted n p lp q lq dst w₀ w) (sym el)
    (λ a b d. record { around = a; below = b; divided = d }) s.around s.below
    (record {
      at = λ k. ap (λ (F : ℕ → ℕ). (convolve F (coef (piece w₀ q lq)) k + coef (piece w dst l) k) % n)
          (fun_ext (λ i. sym (word i))) ∙ (s.at k).same;
    })
  where
    word : (i : ℕ) → s.part i ≡ coef (piece w₀ p lp) i
    word i = ⊎_elim (λ h. s.done i (omega arith)) (λ h. s.rest i (omega arith) ∙ sym (piece_over w₀ p lp i h)) (lt_or_le i lp)

-- a word of the first factor, while the product is taken
first_small : {n p lp q lq dst l j : ℕ} {w₀ w : List ℕ} → Subtracting n p lp q lq dst l j w₀ w → Apart p lp dst l → Below n p lp w₀ →
    (i : ℕ) → i < lp → get_or w (p + i) 0 < n
first_small {n} s a b i h = subst (λ (x : ℕ). x < n) (sym (apart_at a s.around i h)) (b.at i h)

-- the words that a round changes
round_under : {n p lp q lq dst l j : ℕ} {w₀ w : List ℕ} → Subtracting n p lp q lq dst l j w₀ w → j + lq ≤ l → Below n (dst + j) lq w
round_under {n} {p} {lp} {q} {lq} {dst} {l} {j} {w₀} {w} s h =
    record {
      at = λ k b. subst (λ (x : ℕ). get_or w x 0 < n) (let z : dst + (j + k) ≡ dst + j + k = omega arith in z)
          (s.below.at (j + k) (omega arith));
    }

round_apart : {q lq dst l : ℕ} → Apart q lq dst l → (j : ℕ) → j + lq ≤ l → Apart q lq (dst + j) lq
round_apart a j h = record { ok = λ i k p r e. a.ok i (j + k) p (omega arith) (omega arith) }

-- some words more of the first factor are taken, F of them
advance : (n p lp q lq dst l j j' : ℕ) (w₀ w w' : List ℕ) (F : ℕ → ℕ) → j ≤ j' → Subtracting n p lp q lq dst l j w₀ w → Around dst l w w'
    → Below n dst l w'
    → ((i : ℕ) → j ≤ i → i < j' → F i ≡ coef (piece w₀ p lp) i) → ((i : ℕ) → i < j → F i ≡ 0) → ((i : ℕ) → j' ≤ i → F i ≡ 0)
    → ((k : ℕ) → Cong n (convolve F (coef (piece w₀ q lq)) k + coef (piece w' dst l) k) (coef (piece w dst l) k))
    → Subtracting n p lp q lq dst l j' w₀ w'
advance n p lp q lq dst l j j' w₀ w w' F more s around below new old none round = record {
  around = record {
    same = around.same ∙ s.around.same;
    low = λ k h. around.low k h ∙ s.around.low k h;
    high = λ k h. around.high k h ∙ s.around.high k h;
  };
  below = below;
  part = λ i. s.part i + F i;
  done = λ i h. ⊎_elim
      (λ b. ap₂ (λ (x y : ℕ). x + y) (s.done i b) (old i b) ∙ add-zero _)
      (λ b. ap₂ (λ (x y : ℕ). x + y) (s.rest i b) (new i b h) ∙ zero-add _)
      (lt_or_le i j);
  rest = λ i h. ap₂ (λ (x y : ℕ). x + y) (s.rest i (omega arith)) (none i h);
  at = λ k.
      c_trans (c_eq (ap (λ (x : ℕ). x + coef (piece w' dst l) k) (convolve_add s.part F (coef (piece w₀ q lq)) k) ∙ add_assoc _ _ _))
      (c_trans (c_add c_refl (round k)) (s.at k));
}

module _ (n p lp q lq dst l j m : ℕ) (w₀ w : List ℕ) (pos : 0 < n) (some : 1 ≤ lq) (apart_p : Apart p lp dst l)
    (apart_q : Apart q lq dst l) (small : m < n)
    (is_m : m ≡ get_or w (p + j) 0) (s : Subtracting n p lp q lq dst l j w₀ w) where
  Q : ℕ → ℕ
  Q = coef (piece w₀ q lq)

  -- the second factor, as the leaf reads it
  read : (i : ℕ) → i < lq → get_or w (q + i) 0 ≡ Q i
  unfolding Q
  read i h = apart_at apart_q s.around i h ∙ sym (piece_at w₀ q lq i h)

  over : (i : ℕ) → lq ≤ i → Q i ≡ 0
  unfolding Q
  over i h = piece_over w₀ q lq i h

  -- a word of the first factor
  word : (x i : ℕ) → x ≡ get_or w (p + i) 0 → i < lp → x ≡ coef (piece w₀ p lp) i
  word x i e h = e ∙ apart_at apart_p s.around i h ∙ sym (piece_at w₀ p lp i h)

  -- ---- one word

  module _ (w' : List ℕ) (within : j < lp) (fits : j + lq ≤ l) (mv : Moved (addMul n (n - m)) q (dst + j) lq w w') where
    single_round : (k : ℕ) → Cong n (m * risen j Q k + coef (piece w' dst l) k) (coef (piece w dst l) k)
    single_round k =
        ⊎_elim
        (λ h. none k (risen_low j Q k h) (⊎_elim (λ b. piece_at w' dst l k b ∙ mv.low (dst + k) (omega arith) ∙ sym
        (piece_at w dst l k b)) (λ b. piece_over w' dst l k b ∙ sym (piece_over w dst l k b)) (lt_or_le k l)))
        (λ h. ⊎_elim
        (λ b. middle (k - j) (omega arith) (omega arith))
        (λ b. none k (risen_at j Q k (k - j) (omega arith) ∙ over (k - j) (omega arith))
        (⊎_elim (λ b'. piece_at w' dst l k b' ∙ mv.high (dst + k) (omega arith) ∙ sym (piece_at w dst l k b'))
        (λ b'. piece_over w' dst l k b' ∙ sym (piece_over w dst l k b')) (lt_or_le k l)))
        (lt_or_le k (j + lq)))
        (lt_or_le k j)
      where
        none : (k : ℕ) → risen j Q k ≡ 0 → coef (piece w' dst l) k ≡ coef (piece w dst l) k → Cong n
            (m * risen j Q k + coef (piece w' dst l) k) (coef (piece w dst l) k)
        none k e f = c_eq (ap₂ (λ (x y : ℕ). m * x + y) e f ∙ ap (λ (x : ℕ). x + coef (piece w dst l) k) (mul-zero m) ∙ zero-add _)

        middle : (i : ℕ) → k ≡ j + i → i < lq → Cong n (m * risen j Q k + coef (piece w' dst l) k) (coef (piece w dst l) k)
        middle i e b =
            let here : dst + k ≡ dst + j + i = omega arith in
            let there : dst + j + i ≡ dst + k = omega arith in
            c_trans (c_eq (ap₂ (λ (x y : ℕ). m * x + y) (risen_at j Q k i e)
            (piece_at w' dst l k (omega arith) ∙ ap (λ (x : ℕ). get_or w' x 0) here ∙ mv.mid i b
            ∙ ap₂ (λ (x y : ℕ). (x + (n - m) * y) % n) (ap (λ (x : ℕ). get_or w x 0) there) (read i b))))
            (c_trans (back n (get_or w (dst + k) 0) m (Q i) small) (c_eq (sym (piece_at w dst l k (omega arith)))))

    single_below : Below n dst l w'
    single_below = record {
      at = λ k h. ⊎_elim
          (λ b. subst (λ (x : ℕ). x < n) (sym (mv.low (dst + k) (omega arith))) (s.below.at k h))
          (λ b. ⊎_elim
          (λ b'. let here : dst + k ≡ dst + j + (k - j) = omega arith in subst (λ (x : ℕ). x < n)
          (sym (ap (λ (x : ℕ). get_or w' x 0) here ∙ mv.mid (k - j) (omega arith))) (mod-lt _ pos))
          (λ b'. subst (λ (x : ℕ). x < n) (sym (mv.high (dst + k) (omega arith))) (s.below.at k h))
          (lt_or_le k (j + lq)))
          (lt_or_le k j);
    }

    subtracting_one : Subtracting n p lp q lq dst l (j + 1) w₀ w'
    unfolding Q
    subtracting_one =
        advance n p lp q lq dst l j (j + 1) w₀ w w' (spot j m) (omega arith) s
        (record { same = mv.same; low = λ k h. mv.low k (omega arith); high = λ k h. mv.high k (omega arith) }) single_below
        (λ i h b. spot_at j m i (omega arith) ∙ word m i (let z : j ≡ i = omega arith in is_m ∙ ap (λ (x : ℕ). get_or w (p + x) 0) z)
        (omega arith))
        (λ i h. spot_low j m i h) (λ i h. spot_off j m i (omega arith))
        (λ k. c_trans (c_eq (ap (λ (x : ℕ). x + coef (piece w' dst l) k) (convolve_spot j m (coef (piece w₀ q lq)) k))) (single_round k))

  -- ---- two words

  module _ (c v : ℕ) (w' : List ℕ) (small_c : c < n) (within : j + 1 < lp) (fits : j + 1 + lq ≤ l) (inside : dst + l ≤ length w)
      (is_c : c ≡ get_or w (p + (j + 1)) 0)
      (mv : Paired n (n - c) (n - m) q (dst + j) lq w w') (is_v : v ≡ (get_or w' (dst + (j + lq)) 0 + (n - c) * get_or w'
      (q + (lq - 1)) 0) % n) where
    W : List ℕ
    W = set w' (dst + (j + lq)) v

    Goal : ℕ → Type 0
    Goal k = Cong n (c * risen (suc j) Q k + m * risen j Q k + coef (piece W dst l) k) (coef (piece w dst l) k)

    by : (k x y z u : ℕ) → risen (suc j) Q k ≡ x → risen j Q k ≡ y → coef (piece W dst l) k ≡ z → coef (piece w dst l) k ≡ u → Cong n
        (c * x + m * y + z) u → Goal k
    unfolding Goal
    by k x y z u hx hy hz hu h =
        c_trans (c_eq (ap₂ (λ (x y : ℕ). c * x + m * y + coef (piece W dst l) k) hx hy ∙ ap (λ (z : ℕ). c * x + m * y + z) hz))
        (c_trans h (c_eq (sym hu)))

    -- a word of W that is not the top one
    other : (k : ℕ) → k < l → (k ≡ j + lq → ⊥) → coef (piece W dst l) k ≡ get_or w' (dst + k) 0
    unfolding W
    other k h d = piece_at (set w' (dst + (j + lq)) v) dst l k h ∙ get_or-set_other w' (dst + (j + lq)) (dst + k) v 0 (λ e. d (omega arith))

    same : (k : ℕ) → (k < j → ⊥) → j + lq < k → coef (piece W dst l) k ≡ coef (piece w dst l) k
    unfolding W
    same k a h =
        ⊎_elim (λ b. other k b (λ e. omega arith) ∙ mv.high (dst + k) (omega arith) ∙ sym (piece_at w dst l k b))
        (λ b. piece_over (set w' (dst + (j + lq)) v) dst l k b ∙ sym (piece_over w dst l k b)) (lt_or_le k l)

    nothing : (k : ℕ) → risen (suc j) Q k ≡ 0 → risen j Q k ≡ 0 → coef (piece W dst l) k ≡ coef (piece w dst l) k → Goal k
    nothing k hx hy hz = by k 0 0 (coef (piece w dst l) k) (coef (piece w dst l) k) hx hy hz refl (c_eq (zeros (coef (piece w dst l) k)))
      where
        zeros : (x : ℕ) → c * 0 + m * 0 + x ≡ x
        zeros x = omega arith

    middle : (k i : ℕ) → k ≡ j + i → i < lq → Goal k
    middle k i e h =
        by k (behind Q i) (Q i) ((get_or w (dst + k) 0 + (n - c) * behind Q i + (n - m) * Q i) % n) (get_or w (dst + k) 0)
        (first i e h) (risen_at j Q k i e)
        (other k (omega arith) (λ d. omega arith) ∙ ap (λ (x : ℕ). get_or w' x 0) here ∙ mv.mid i h
        ∙ ap₂ (λ (x y : ℕ). (x + (n - c) * behind (λ (k : ℕ). get_or w (q + k) 0) i + (n - m) * y) % n)
        (ap (λ (x : ℕ). get_or w x 0) (sym here)) (read i h)
        ∙ ap (λ (x : ℕ). (get_or w (dst + k) 0 + (n - c) * x + (n - m) * Q i) % n) (seen i h))
        (piece_at w dst l k (omega arith))
        (back_two n (get_or w (dst + k) 0) c (behind Q i) m (Q i) small_c small)
      where
        here : dst + k ≡ dst + j + i
        here = omega arith

        first : (i : ℕ) → k ≡ j + i → i < lq → risen (suc j) Q k ≡ behind Q i
        first zero e h = risen_low (suc j) Q k (omega arith)
        first (suc i) e h = risen_at (suc j) Q k i (omega arith)

        seen : (i : ℕ) → i < lq → behind (λ (k : ℕ). get_or w (q + k) 0) i ≡ behind Q i
        seen zero h = refl
        seen (suc i) h = read i (omega arith)

    top : (k : ℕ) → k ≡ j + lq → Goal k
    unfolding W
    top k e =
        by k (Q (lq - 1)) 0 ((get_or w (dst + k) 0 + (n - c) * Q (lq - 1)) % n) (get_or w (dst + k) 0)
        (risen_at (suc j) Q k (lq - 1) (omega arith)) (risen_at j Q k lq e ∙ over lq (omega arith))
        (piece_at (set w' (dst + (j + lq)) v) dst l k (omega arith) ∙ ap (λ (x : ℕ). get_or (set w' (dst + (j + lq)) v) (dst + x) 0) e
        ∙ get_or-set_same w' (dst + (j + lq)) v 0 (omega (arith, mv.same)) ∙ is_v
        ∙ ap₂ (λ (x y : ℕ). (x + (n - c) * y) % n) (mv.high (dst + (j + lq)) (omega arith) ∙ ap (λ (x : ℕ). get_or w (dst + x) 0) (sym e))
        (kept ∙ read (lq - 1) (omega arith)))
        (piece_at w dst l k (omega arith))
        (c_trans (c_eq (gap (c * Q (lq - 1)) ((get_or w (dst + k) 0 + (n - c) * Q (lq - 1)) % n)))
        (back n (get_or w (dst + k) 0) c (Q (lq - 1)) small_c))
      where
        gap : (x y : ℕ) → x + m * 0 + y ≡ x + y
        gap x y = omega arith

        paired : Around dst l w w'
        paired = record { same = mv.same; low = λ k h. mv.low k (omega arith); high = λ k h. mv.high k (omega arith) }

        kept : get_or w' (q + (lq - 1)) 0 ≡ get_or w (q + (lq - 1)) 0
        kept = apart_at apart_q paired (lq - 1) (omega arith)

    round : (k : ℕ) → Goal k
    round k =
        ⊎_elim
        (λ h. nothing k (risen_low (suc j) Q k (omega arith)) (risen_low j Q k h)
        (other k (omega arith) (λ e. omega arith) ∙ mv.low (dst + k) (omega arith) ∙ sym (piece_at w dst l k (omega arith))))
        (λ h. ⊎_elim
        (λ b. middle k (k - j) (omega arith) (omega arith))
        (λ b. ⊎_elim (λ e. top k (sym e))
        (λ e. nothing k (risen_at (suc j) Q k (k - suc j) (omega arith) ∙ over (k - suc j) (omega arith))
        (risen_at j Q k (k - j) (omega arith) ∙ over (k - j) (omega arith)) (same k (λ z. omega arith) e))
        (eq-or-lt_of_le b))
        (lt_or_le k (j + lq)))
        (lt_or_le k j)

    around : Around dst l w W
    unfolding W
    around = record {
      same = length-set w' (dst + (j + lq)) v ∙ mv.same;
      low = λ k h. get_or-set_other w' (dst + (j + lq)) k v 0 (omega arith) ∙ mv.low k (omega arith);
      high = λ k h. get_or-set_other w' (dst + (j + lq)) k v 0 (omega arith) ∙ mv.high k (omega arith);
    }

    below : Below n dst l W
    unfolding W
    below = record { at = λ k h. go k h (ℕ_discrete k (j + lq)) }
      where
        rest : (k : ℕ) → k < l → (k ≡ j + lq → ⊥) → get_or w' (dst + k) 0 < n
        rest k h d = ⊎_elim
            (λ b. subst (λ (x : ℕ). x < n) (sym (mv.low (dst + k) (omega arith))) (s.below.at k h))
            (λ b. ⊎_elim
            (λ b'. let here : dst + k ≡ dst + j + (k - j) = omega arith in subst (λ (x : ℕ). x < n)
            (sym (ap (λ (x : ℕ). get_or w' x 0) here ∙ mv.mid (k - j) (omega arith))) (mod-lt _ pos))
            (λ b'. subst (λ (x : ℕ). x < n) (sym (mv.high (dst + k) (omega arith))) (s.below.at k h))
            (lt_or_le k (j + lq)))
            (lt_or_le k j)

        go : (k : ℕ) → k < l → Dec (k ≡ j + lq) → get_or (set w' (dst + (j + lq)) v) (dst + k) 0 < n
        go k h (yes e) =
            subst (λ (x : ℕ). get_or (set w' (dst + (j + lq)) v) (dst + x) 0 < n) (sym e)
            (subst (λ (x : ℕ). x < n) (sym (get_or-set_same w' (dst + (j + lq)) v 0 (omega (arith, mv.same)) ∙ is_v)) (mod-lt _ pos))
        go k h (no e) = subst (λ (x : ℕ). x < n) (sym (get_or-set_other w' (dst + (j + lq)) (dst + k) v 0 (λ d. e (omega arith))))
            (rest k h e)

    subtracting_two : Subtracting n p lp q lq dst l (j + 2) w₀ (set w' (dst + (j + lq)) v)
    unfolding W Q Goal
    subtracting_two =
        advance n p lp q lq dst l j (j + 2) w₀ w (set w' (dst + (j + lq)) v) (λ i. spot (suc j) c i + spot j m i)
        (omega arith) s around below
        (λ i h b. ⊎_elim
        (λ e. ap₂ (λ (x y : ℕ). x + y) (spot_low (suc j) c i (omega arith)) (spot_at j m i (sym e)) ∙ zero-add m ∙ word m i
        (is_m ∙ ap (λ (x : ℕ). get_or w (p + x) 0) e) (omega arith))
        (λ e. let z : j + 1 ≡ i = omega arith in
        ap₂ (λ (x y : ℕ). x + y) (spot_at (suc j) c i (omega arith)) (spot_off j m i e) ∙ add-zero c ∙ word c i
        (is_c ∙ ap (λ (x : ℕ). get_or w (p + x) 0) z) (omega arith))
        (eq-or-lt_of_le h))
        (λ i h. ap₂ (λ (x y : ℕ). x + y) (spot_low (suc j) c i (omega arith)) (spot_low j m i h))
        (λ i h. ap₂ (λ (x y : ℕ). x + y) (spot_off (suc j) c i (omega arith)) (spot_off j m i (omega arith)))
        (λ k. c_trans (c_eq (ap (λ (x : ℕ). x + coef (piece (set w' (dst + (j + lq)) v) dst l) k)
        (convolve_add (spot (suc j) c) (spot j m) (coef (piece w₀ q lq)) k
        ∙ ap₂ (λ (x y : ℕ). x + y) (convolve_spot (suc j) c (coef (piece w₀ q lq)) k) (convolve_spot j m (coef (piece w₀ q lq)) k))))
        (round k))

-- ---- as the code has it

-- i pairs of words of the first factor have been taken
pub record Taking (n p lp q lq dst : ℕ) (w₀ w : List ℕ) (i : ℕ) : Type 0 where
  pub most : 2 * i ≤ lp
  pub done : Subtracting n p lp q lq dst (lp + lq - 1) (2 * i) w₀ w

pub taking_start : (n p lp q lq dst : ℕ) (w : List ℕ) → Factors n p lp q lq dst w → Taking n p lp q lq dst w w 0
taking_start n p lp q lq dst w fs = record { most = omega arith; done = subtracting_start _ _ _ _ _ _ _ _ fs.product }

module _ (n p lp q lq dst i : ℕ) (w₀ w : List ℕ) (x : Taking n p lp q lq dst w₀ w i) where
  pub taking_end : lp / 2 ≤ i → lp % 2 ≡ 0 → Subtracted n p lp q lq dst w₀ w
  taking_end l e = subtracting_end _ _ _ _ _ _ _ (2 * i) _ _ (omega (arith, x.most, div-add-mod lp 2)) refl x.done

  -- one word is left
  left : lp / 2 ≤ i → (lp % 2 ≡ 0 → ⊥) → lp ≡ 2 * i + 1
  left l ne = omega (arith, x.most, div-add-mod lp 2)

  pairs : i < lp / 2 → 2 * i + 1 < lp
  pairs l = omega (arith, div-add-mod lp 2)

  module _ (room : ProductAsked n p lp q lq dst w₀) (fs : Factors n p lp q lq dst w₀) where
    small : (k : ℕ) → k < lp → get_or w (p + k) 0 < n
    small = first_small x.done fs.apart_first fs.first

    pub first_most : i < lp / 2 → get_or w (p + 2 * i) 0 ≤ n
    first_most l = le_of_lt (small (2 * i) (omega (arith, pairs l)))

    pub second_most : i < lp / 2 → get_or w (p + (2 * i + 1)) 0 ≤ n
    second_most l = le_of_lt (small (2 * i + 1) (pairs l))

    pub last_most : get_or w (p + (lp - 1)) 0 ≤ n
    last_most = le_of_lt (small (lp - 1) (omega (arith, room.some_first)))

    asked_at : (m : ℕ) → 2 * i < lp → PairAsked n (n - m) q (dst + 2 * i) lq w
    asked_at m h = record {
      modulus = room.modulus;
      factor = omega arith;
      source = omega (arith, room.second, x.done.around.same);
      target = omega (arith, room.product, x.done.around.same);
      apart = round_apart fs.apart_second (2 * i) (omega arith);
      below = round_under x.done (omega arith);
    }

    pub pair_asked : (m : ℕ) → i < lp / 2 → PairAsked n (n - m) q (dst + 2 * i) lq w
    pair_asked m l = asked_at m (omega (arith, pairs l))

    pub last_asked : (m : ℕ) → lp / 2 ≤ i → (lp % 2 ≡ 0 → ⊥) → PairAsked n (n - m) q (dst + (lp - 1)) lq w
    last_asked m l ne = subst (λ (k : ℕ). PairAsked n (n - m) q (dst + k) lq w) (omega (arith, left l ne))
        (asked_at m (omega (arith, left l ne)))

    -- the second factor is as it was
    pub factor_below : Below n q lq w
    factor_below = record {
      at = λ k l. subst (λ (y : ℕ). y < n) (sym (apart_at fs.apart_second x.done.around k l)) (fs.second.at k l);
    }

    pub taking_next : (v : ℕ) (w' w'' : List ℕ) → i < lp / 2
        → Paired n (n - get_or w (p + (2 * i + 1)) 0) (n - get_or w (p + 2 * i) 0) q (dst + 2 * i) lq w w'
        → v ≡ (get_or w' (dst + (2 * i + lq)) 0 + (n - get_or w (p + (2 * i + 1)) 0) * get_or w' (q + (lq - 1)) 0) % n
        → w'' ≡ set w' (dst + (2 * i + lq)) v → Taking n p lp q lq dst w₀ w'' (i + 1)
    taking_next v w' w'' l mv is ew =
        let h : 2 * i + 1 < lp = pairs l in
        rw ew (record {
          most = omega arith;
          done = subst (λ (k : ℕ). Subtracting n p lp q lq dst (lp + lq - 1) k w₀ (set w' (dst + (2 * i + lq)) v)) (omega arith)
              (subtracting_two _ _ _ _ _ _ _ (2 * i) _ w₀ w room.modulus room.some_second fs.apart_first fs.apart_second
              (small (2 * i) (omega arith)) refl x.done _ v w' (small (2 * i + 1) h) h (omega arith)
              (omega (arith, room.product, x.done.around.same)) refl mv is);
        })

    pub taking_last : (w' : List ℕ) → lp / 2 ≤ i → (lp % 2 ≡ 0 → ⊥)
        → Moved (addMul n (n - get_or w (p + (lp - 1)) 0)) q (dst + (lp - 1)) lq w w' → Subtracted n p lp q lq dst w₀ w'
    taking_last w' l ne mv =
        let e : lp ≡ 2 * i + 1 = left l ne in
        let k : lp - 1 ≡ 2 * i = omega arith in
        subtracting_end _ _ _ _ _ _ _ (2 * i + 1) _ _ (sym e) refl
        (subtracting_one _ _ _ _ _ _ _ (2 * i) _ w₀ w room.modulus room.some_second fs.apart_first fs.apart_second
        (small (2 * i) (omega arith)) refl x.done w' (omega arith) (omega (arith, room.some_second))
        (subst (λ (y : ℕ). Moved (addMul n (n - get_or w (p + y) 0)) q (dst + y) lq w w') k mv))

pub ruleset asked = (first_most, second_most, last_most, pair_asked, last_asked, factor_below)

pub ruleset subtractions = (rules, asked, taking_start, taking_next, taking_end, taking_last)
