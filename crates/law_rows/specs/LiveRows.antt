-- The invariant of the loop over Sylvester's columns, of the determinant and of the rows at once, and one law for each of its steps. Only
-- the live rows are kept, each as its words W at the columns left and its multipliers X and Y.
--
--   Live s l p q x W X Y     the resultant is x times the determinant of what is left, and live row i is X i f + Y i g
--   live_start, live_in_both, live_in_first, live_in_second, live_in_none    the first column; the column's rows come in
--   Added, Swapped           a multiple of a row added to a row; two rows exchanged
--   live_add, live_swap      the same of W, X and Y together
--   live_value, live_combines    one row and one column: the resultant is x times its word, and its multipliers times x are the cofactors
--
-- Letters: d, e are the degrees of f and g, the constant first; l is the number of live rows, p and q those of the rows of f and g still to
-- come in; s is 1 once the column's rows are in, and 0 before; i, k, r are live rows, c a column or a place.
use Rattle.std.specs.Prelude.{◌≡◌, refl, ◌≢◌, ℕ, zero, suc, ◌<◌, ◌≤◌, ◌+◌ as ◌+ℕ◌}
use Rattle.std.proofs.Common.{sym, ◌∙◌, ap, ap₂, subst, arith}
use Rattle.std.proofs.Math.Path.{fun_ext}
use Rattle.std.proofs.Math.Decide.{ℕ_discrete}
use Rattle.law_algebra.specs.Resultant.{shift}
use Rattle.law_algebra.specs.Reverse.{rv}
use Rattle.law_algebra.specs.Ring.{CRing, mul_one}
use Rattle.law_algebra.specs.SentLaws.{Rs}
use Rattle.law_algebra.specs.Series.{conv, const}
use Rattle.law_algebra.specs.Stack.{up, up_is, stack}
use Rattle.law_algebra.specs.Sum.{sgn}
use Rattle.law_rows.specs.Band.{snoc, Stage, stage_start, stage_in_both, stage_in_first, stage_in_second, stage_in_none}
use Rattle.law_rows.specs.Band.{stage_add, stage_swap, stage_done, stage_end, Row, row_first, row_second, row_add, row_combines}

-- what holds of l rows and of one more holds of l + 1
snoc_all : {A B C : Type 0} (P : A → B → C → Type 0) (l : ℕ) (a : ℕ → A) (b : ℕ → B) (c : ℕ → C) (x : A) (y : B) (z : C)
    → ((i : ℕ) → i < l → P (a i) (b i) (c i)) → P x y z → (i : ℕ) → i < suc l → P (snoc l a x i) (snoc l b y i) (snoc l c z i)
snoc_all P zero a b c x y z h k i l = k
snoc_all P (suc n) a b c x y z h k zero l = h 0 (omega arith)
snoc_all P (suc n) a b c x y z h k (suc i) l = snoc_all P n (λ i. a (suc i)) (λ i. b (suc i)) (λ i. c (suc i)) x y z
    (λ i l. h (suc i) (omega arith)) k i (omega arith)

module _ {R : Type 0} (𝓡 : CRing R) where
  open 𝓡 use {add as ◌+◌, mul as ◌*◌, neg as -◌, nil as 𝟘, unit as 𝟙}

  infixl 65 ◌+◌
  infixl 70 ◌*◌
  infix 75 -◌
  -- y times the row i is added to the row k
  pub record Added (i k : ℕ) (y : R) (T T' : ℕ → ℕ → R) : Type 0 where
    pub new : (c : ℕ) → T' k c ≡ y * T i c + T k c
    pub old : (r c : ℕ) → r ≢ k → T' r c ≡ T r c

  -- the rows i and k change places
  pub record Swapped (i k : ℕ) (T T' : ℕ → ℕ → R) : Type 0 where
    pub first : (c : ℕ) → T' i c ≡ T k c
    pub second : (c : ℕ) → T' k c ≡ T i c
    pub old : (r c : ℕ) → r ≢ i → r ≢ k → T' r c ≡ T r c

  module _ (d e : ℕ) (f g : ℕ → R) where
    pub record Live (s l p q : ℕ) (x : R) (W X Y : ℕ → ℕ → R) : Type 0 where
      pub stage : Stage 𝓡 d e f g s l W p q x
      pub row : (i : ℕ) → i < l → Row 𝓡 d e f g (l +ℕ p +ℕ q) (W i) (X i) (Y i)

    -- rows that are equal to rows
    same_row : {n : ℕ} {w u v w' u' v' : ℕ → R} → ((c : ℕ) → w' c ≡ w c) → ((c : ℕ) → u' c ≡ u c) → ((c : ℕ) → v' c ≡ v c)
        → Row 𝓡 d e f g n w u v → Row 𝓡 d e f g n w' u' v'
    same_row {n} {w} {u} {v} {w'} {u'} {v'} hw hu hv r =
        subst (λ (w : ℕ → R). Row 𝓡 d e f g n w u' v') (sym (fun_ext hw))
        (subst (λ (u : ℕ → R). Row 𝓡 d e f g n w u v') (sym (fun_ext hu))
        (subst (λ (v : ℕ → R). Row 𝓡 d e f g n w u v) (sym (fun_ext hv)) r))

    pub live_start : (W X Y : ℕ → ℕ → R) → Live 0 0 e d 𝟙 W X Y
    live_start W X Y = record { stage = stage_start 𝓡 d e f g W; row = λ i l. absurd (omega arith) }

    -- p and q are the numbers after the rows came in, so that the rows are x^p f and x^q g
    pub live_in_both : {l p q : ℕ} {x : R} {W X Y : ℕ → ℕ → R} → ((k : ℕ) → d < k → f k ≡ 𝟘) → ((k : ℕ) → e < k → g k ≡ 𝟘)
        → l +ℕ suc q ≡ d → l +ℕ suc p ≡ e → Live 0 l (suc p) (suc q) x W X Y
        → Live 1 (suc (suc l)) p q (sgn 𝓡 p x) (snoc (suc l) (snoc l W (rv 𝓡 d f)) (rv 𝓡 e g))
        (snoc (suc l) (snoc l X (shift 𝓡 p (const 𝓡 𝟙))) (λ k. 𝟘)) (snoc (suc l) (snoc l Y (λ k. 𝟘)) (shift 𝓡 q (const 𝓡 𝟙)))
    live_in_both {l} {p} {q} {x} {W} {X} {Y} zf zg hd he t = record {
      stage = stage_in_both 𝓡 d e f g t.stage;
      row = snoc_all (Row 𝓡 d e f g n) (suc l) _ _ _ _ _ _
          (snoc_all (Row 𝓡 d e f g n) l W X Y _ _ _ (λ i h. subst (λ (k : ℕ). Row 𝓡 d e f g k (W i) (X i) (Y i)) same (t.row i h))
          (subst (λ (k : ℕ). Row 𝓡 d e f g k (rv 𝓡 d f) (shift 𝓡 p (const 𝓡 𝟙)) (λ k. 𝟘)) first (row_first 𝓡 d e p f g zf (omega arith))))
          (subst (λ (k : ℕ). Row 𝓡 d e f g k (rv 𝓡 e g) (λ k. 𝟘) (shift 𝓡 q (const 𝓡 𝟙))) second (row_second 𝓡 d e q f g zg (omega arith)));
    }
      where
        n : ℕ
        n = suc (suc l) +ℕ p +ℕ q

        same : l +ℕ suc p +ℕ suc q ≡ n
        same = omega arith

        first : suc (p +ℕ d) ≡ n
        first = omega arith

        second : suc (q +ℕ e) ≡ n
        second = omega arith

    pub live_in_first : {l p : ℕ} {x : R} {W X Y : ℕ → ℕ → R} → ((k : ℕ) → d < k → f k ≡ 𝟘) → p < e → l ≡ d → Live 0 l (suc p) 0 x W X Y
        → Live 1 (suc l) p 0 x (snoc l W (rv 𝓡 d f)) (snoc l X (shift 𝓡 p (const 𝓡 𝟙))) (snoc l Y (λ k. 𝟘))
    live_in_first {l} {p} {x} {W} {X} {Y} zf lp hd t = record {
      stage = stage_in_first 𝓡 d e f g t.stage;
      row = snoc_all (Row 𝓡 d e f g (suc l +ℕ p +ℕ 0)) l W X Y _ _ _
          (λ i h. subst (λ (k : ℕ). Row 𝓡 d e f g k (W i) (X i) (Y i)) same (t.row i h))
          (subst (λ (k : ℕ). Row 𝓡 d e f g k (rv 𝓡 d f) (shift 𝓡 p (const 𝓡 𝟙)) (λ k. 𝟘)) first (row_first 𝓡 d e p f g zf lp));
    }
      where
        same : l +ℕ suc p +ℕ 0 ≡ suc l +ℕ p +ℕ 0
        same = omega arith

        first : suc (p +ℕ d) ≡ suc l +ℕ p +ℕ 0
        first = omega arith

    pub live_in_second : {l q : ℕ} {x : R} {W X Y : ℕ → ℕ → R} → ((k : ℕ) → e < k → g k ≡ 𝟘) → q < d → l ≡ e → Live 0 l 0 (suc q) x W X Y
        → Live 1 (suc l) 0 q x (snoc l W (rv 𝓡 e g)) (snoc l X (λ k. 𝟘)) (snoc l Y (shift 𝓡 q (const 𝓡 𝟙)))
    live_in_second {l} {q} {x} {W} {X} {Y} zg lq he t = record {
      stage = stage_in_second 𝓡 d e f g t.stage;
      row = snoc_all (Row 𝓡 d e f g (suc l +ℕ 0 +ℕ q)) l W X Y _ _ _
          (λ i h. subst (λ (k : ℕ). Row 𝓡 d e f g k (W i) (X i) (Y i)) same (t.row i h))
          (subst (λ (k : ℕ). Row 𝓡 d e f g k (rv 𝓡 e g) (λ k. 𝟘) (shift 𝓡 q (const 𝓡 𝟙))) first (row_second 𝓡 d e q f g zg lq));
    }
      where
        same : l +ℕ 0 +ℕ suc q ≡ suc l +ℕ 0 +ℕ q
        same = omega arith

        first : suc (q +ℕ e) ≡ suc l +ℕ 0 +ℕ q
        first = omega arith

    pub live_in_none : {l : ℕ} {x : R} {W X Y : ℕ → ℕ → R} → Live 0 l 0 0 x W X Y → Live 1 l 0 0 x W X Y
    live_in_none t = record { stage = stage_in_none 𝓡 d e f g t.stage; row = t.row }

    pub live_add : {s l p q : ℕ} {x : R} {W X Y W' X' Y' : ℕ → ℕ → R} (i k : ℕ) (y : R) → i < l → k < l → i ≢ k → Added i k y W W'
        → Added i k y X X' → Added i k y Y Y' → Live s l p q x W X Y → Live s l p q x W' X' Y'
    live_add {s} {l} {p} {q} {x} {W} {X} {Y} {W'} {X'} {Y'} i k y hi hk z w u v t = record {
      stage = stage_add 𝓡 d e f g W W' i k y hi hk z (λ c b. w.new c) (λ r c a b h. w.old r c h) t.stage;
      row = λ r h. go r h (ℕ_discrete r k);
    }
      where
        go : (r : ℕ) → r < l → Dec (r ≡ k) → Row 𝓡 d e f g (l +ℕ p +ℕ q) (W' r) (X' r) (Y' r)
        go r h (yes a) = subst (λ (j : ℕ). Row 𝓡 d e f g (l +ℕ p +ℕ q) (W' j) (X' j) (Y' j)) (sym a)
            (same_row w.new u.new v.new (row_add 𝓡 d e f g y (t.row i hi) (t.row k hk)))
        go r h (no a) = same_row (λ c. w.old r c a) (λ c. u.old r c a) (λ c. v.old r c a) (t.row r h)

    pub live_swap : {s l p q : ℕ} {x : R} {W X Y W' X' Y' : ℕ → ℕ → R} (i k : ℕ) → i < l → k < l → i ≢ k → Swapped i k W W'
        → Swapped i k X X' → Swapped i k Y Y' → Live s l p q x W X Y → Live s l p q (- x) W' X' Y'
    live_swap {s} {l} {p} {q} {x} {W} {X} {Y} {W'} {X'} {Y'} i k hi hk z w u v t = record {
      stage = stage_swap 𝓡 d e f g W W' i k hi hk z (λ c b. w.first c) (λ c b. w.second c) (λ r c a b h h'. w.old r c h h') t.stage;
      row = λ r h. go r h (ℕ_discrete r i) (ℕ_discrete r k);
    }
      where
        go : (r : ℕ) → r < l → Dec (r ≡ i) → Dec (r ≡ k) → Row 𝓡 d e f g (l +ℕ p +ℕ q) (W' r) (X' r) (Y' r)
        go r h (yes a) b = subst (λ (j : ℕ). Row 𝓡 d e f g (l +ℕ p +ℕ q) (W' j) (X' j) (Y' j)) (sym a)
            (same_row w.first u.first v.first (t.row k hk))
        go r h (no a) (yes b) = subst (λ (j : ℕ). Row 𝓡 d e f g (l +ℕ p +ℕ q) (W' j) (X' j) (Y' j)) (sym b)
            (same_row w.second u.second v.second (t.row i hi))
        go r h (no a) (no b) = same_row (λ c. w.old r c a b) (λ c. u.old r c a b) (λ c. v.old r c a b) (t.row r h)

    -- the last column
    pub live_value : {x : R} {W X Y : ℕ → ℕ → R} → Live 1 1 0 0 x W X Y → Rs 𝓡 d e f g ≡ x * W 0 0
    live_value t = stage_end 𝓡 d e f g (stage_done 𝓡 d e f g _ (λ i l. absurd (omega arith)) t.stage)

    pub live_combines : {x : R} {W X Y : ℕ → ℕ → R} → Live 1 1 0 0 x W X Y
        → (k : ℕ) → conv 𝓡 (λ k. x * X 0 k) f k + conv 𝓡 (λ k. x * Y 0 k) g k ≡ const 𝓡 (Rs 𝓡 d e f g) k
    live_combines {x} t = row_combines 𝓡 d e f g x (t.row 0 (omega arith)) (live_value t)
