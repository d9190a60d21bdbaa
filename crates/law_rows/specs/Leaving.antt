-- The invariant of the live rows where a row leaves, over any ring. A row whose word is the only one of its column that may be other than 0
-- is taken away; the last row may take its place.
--
--   live_same                 rows that are equal to live rows
--   row_out                   the determinant of what is left, by the row t: its word times the rest, with the sign (-1)^t
--   live_drop                 the row t leaves, and those below it move up
--   live_leave_last           the last row leaves
--   live_leave                the row t leaves, and the last row takes its place
--
-- Letters: as in LiveRows; t is the row that leaves.
use Rattle.std.specs.Prelude.{◌≡◌, refl, ◌≢◌, ℕ, zero, suc, ◌<◌, ◌≤◌, ◌+◌ as ◌+ℕ◌}
use Rattle.std.proofs.Common.{sym, ◌∙◌, ap, ap₂, subst, arith}
use Rattle.std.proofs.Math.Path.{fun_ext}
use Rattle.std.proofs.Math.Decide.{ℕ_discrete}
use Rattle.law_algebra.specs.Index.{ins, skip, skip_lt, skip_ne, ins_eta}
use Rattle.law_algebra.specs.Ring.{CRing}
use Rattle.law_algebra.specs.Rows.{rise, put, put_same, put_other}
use Rattle.law_algebra.specs.Sum.{sgn, sgn_mul, sgn_assoc}
use Rattle.law_rows.specs.Band.{left, left_form, column_done, of_first, of_second, Stage, Row, row_next}
use Rattle.law_rows.specs.LiveRows.{Live, Swapped, live_swap}

pub skip_below : (t i : ℕ) → i < t → skip t i ≡ i
skip_below zero i h = absurd (omega arith)
skip_below (suc t) zero h = refl
skip_below (suc t) (suc i) h = ap suc (skip_below t i (omega arith))

module _ {R : Type 0} (𝓡 : CRing R) where
  open 𝓡 use {add as ◌+◌, mul as ◌*◌, neg as -◌, nil as 𝟘, unit as 𝟙}

  infixl 65 ◌+◌
  infixl 70 ◌*◌
  infix 75 -◌
  pub row_out : (l p q t : ℕ) (a A B : ℕ → ℕ → R) → t < suc l → ((i : ℕ) → i < suc l → i ≢ t → a i 0 ≡ 𝟘)
      → ((i : ℕ) → i < p → A i 0 ≡ 𝟘) → ((i : ℕ) → i < q → B i 0 ≡ 𝟘)
      → left 𝓡 (suc l) a p A q B
      ≡ a t 0 * sgn 𝓡 t (left 𝓡 l (λ i c. a (skip t i) (suc c)) p (λ i c. A i (suc c)) q (λ i c. B i (suc c)))
  row_out l p q t a A B h za zA zB =
      ap (λ (b : ℕ → ℕ → R). left 𝓡 (suc l) b p A q B) (sym (ins_eta t a))
      ∙ rise 𝓡 (left_form 𝓡 (suc l) p q A B) t h (a t) (λ r. a (skip t r))
      ∙ ap (sgn 𝓡 t) (column_done 𝓡 l p q (ins 0 (a t) (λ r. a (skip t r))) A B
      (λ i b. za (skip t i) (skip_lt t i l b) (skip_ne t i)) zA zB)
      ∙ sym (sgn_mul 𝓡 t (a t 0) _)

  module _ (d e : ℕ) (f g : ℕ → R) where
    -- rows that are equal to live rows
    pub live_same : {s l p q : ℕ} {x : R} {W X Y W' X' Y' : ℕ → ℕ → R} → ((i c : ℕ) → i < l → W' i c ≡ W i c)
        → ((i c : ℕ) → i < l → X' i c ≡ X i c) → ((i c : ℕ) → i < l → Y' i c ≡ Y i c)
        → Live 𝓡 d e f g s l p q x W X Y → Live 𝓡 d e f g s l p q x W' X' Y'
    live_same {s} {l} {p} {q} {x} {W} {X} {Y} {W'} {X'} {Y'} hw hu hv t = record {
      stage = record {
        value = t.stage.value ∙ ap (λ y. x * y) ((left_form 𝓡 l p q (of_first 𝓡 d e f g s) (of_second 𝓡 d e f g s)).cong W W'
            (λ r c b h. sym (hw r c b)));
      };
      row = λ i h. subst (λ (w : ℕ → R). Row 𝓡 d e f g (l +ℕ p +ℕ q) w (X' i) (Y' i)) (sym (fun_ext (λ c. hw i c h)))
          (subst (λ (u : ℕ → R). Row 𝓡 d e f g (l +ℕ p +ℕ q) (W i) u (Y' i)) (sym (fun_ext (λ c. hu i c h)))
          (subst (λ (v : ℕ → R). Row 𝓡 d e f g (l +ℕ p +ℕ q) (W i) (X i) v) (sym (fun_ext (λ c. hv i c h))) (t.row i h)));
    }

    -- the row t leaves, and those below it move up
    pub live_drop : {l p q : ℕ} {x : R} {W X Y : ℕ → ℕ → R} (t : ℕ) → t < suc l → ((i : ℕ) → i < suc l → i ≢ t → W i 0 ≡ 𝟘)
        → Live 𝓡 d e f g 1 (suc l) p q x W X Y
        → Live 𝓡 d e f g 0 l p q (sgn 𝓡 t (x * W t 0)) (λ i c. W (skip t i) (suc c)) (λ i. X (skip t i)) (λ i. Y (skip t i))
    live_drop {l} {p} {q} {x} {W} {X} {Y} t h z s = record {
      stage = record {
        value = s.stage.value
            ∙ ap (λ y. x * y) (row_out l p q t W (of_first 𝓡 d e f g 1) (of_second 𝓡 d e f g 1) h z (λ i b. refl) (λ i b. refl))
            ∙ sgn_assoc 𝓡 t x (W t 0) _;
      };
      row = λ i b. row_next 𝓡 d e f g
          (subst (λ (k : ℕ). Row 𝓡 d e f g k (W (skip t i)) (X (skip t i)) (Y (skip t i))) same (s.row (skip t i) (skip_lt t i l b)))
          (z (skip t i) (skip_lt t i l b) (skip_ne t i));
    }
      where
        same : suc l +ℕ p +ℕ q ≡ suc (l +ℕ p +ℕ q)
        same = omega arith

    -- the last row leaves
    pub live_leave_last : {l p q : ℕ} {x : R} {W X Y W' X' Y' : ℕ → ℕ → R} → ((i : ℕ) → i < l → W i 0 ≡ 𝟘)
        → ((i c : ℕ) → i < l → W' i c ≡ W i (suc c)) → ((i c : ℕ) → i < l → X' i c ≡ X i c) → ((i c : ℕ) → i < l → Y' i c ≡ Y i c)
        → Live 𝓡 d e f g 1 (suc l) p q x W X Y → Live 𝓡 d e f g 0 l p q (sgn 𝓡 l (x * W l 0)) W' X' Y'
    live_leave_last {l} {p} {q} {x} {W} {X} {Y} z hw hu hv s =
        live_same
        (λ i c h. hw i c h ∙ ap (λ (r : ℕ). W r (suc c)) (sym (skip_below l i h)))
        (λ i c h. hu i c h ∙ ap (λ (r : ℕ). X r c) (sym (skip_below l i h)))
        (λ i c h. hv i c h ∙ ap (λ (r : ℕ). Y r c) (sym (skip_below l i h)))
        (live_drop l (omega arith) (λ i h k. z i (omega arith)) s)

    -- the row t leaves, and the last row takes its place: an exchange, with its sign
    pub live_leave : {l p q : ℕ} {x : R} {W X Y W' X' Y' : ℕ → ℕ → R} (t : ℕ) → t < l → ((i : ℕ) → i < suc l → i ≢ t → W i 0 ≡ 𝟘)
        → ((i c : ℕ) → i < l → i ≢ t → W' i c ≡ W i (suc c)) → ((c : ℕ) → W' t c ≡ W l (suc c))
        → ((i c : ℕ) → i < l → i ≢ t → X' i c ≡ X i c) → ((c : ℕ) → X' t c ≡ X l c)
        → ((i c : ℕ) → i < l → i ≢ t → Y' i c ≡ Y i c) → ((c : ℕ) → Y' t c ≡ Y l c)
        → Live 𝓡 d e f g 1 (suc l) p q x W X Y → Live 𝓡 d e f g 0 l p q (sgn 𝓡 l ((- x) * W t 0)) W' X' Y'
    live_leave {l} {p} {q} {x} {W} {X} {Y} {W'} {X'} {Y'} t h z hw kw hu ku hv kv s =
        subst (λ (y : R). Live 𝓡 d e f g 0 l p q (sgn 𝓡 l ((- x) * y)) W' X' Y') (at_last W 0)
        (live_leave_last (λ i b. cleared i b (ℕ_discrete i t))
        (λ i c b. go W' (λ r c. W r (suc c)) i c b hw kw (ℕ_discrete i t) ∙ shifted i c)
        (λ i c b. go X' X i c b hu ku (ℕ_discrete i t)) (λ i c b. go Y' Y i c b hv kv (ℕ_discrete i t))
        (live_swap 𝓡 d e f g t l (omega arith) (omega arith) (λ w. omega arith) (swaps W) (swaps X) (swaps Y) s))
      where
        at_first : (T : ℕ → ℕ → R) (c : ℕ) → put 𝓡 t (T l) (put 𝓡 l (T t) T) t c ≡ T l c
        at_first T c = ap (λ (v : ℕ → R). v c) (put_same 𝓡 t (T l) (put 𝓡 l (T t) T))

        at_last : (T : ℕ → ℕ → R) (c : ℕ) → put 𝓡 t (T l) (put 𝓡 l (T t) T) l c ≡ T t c
        at_last T c = ap (λ (v : ℕ → R). v c) (put_other 𝓡 t (T l) (put 𝓡 l (T t) T) l (λ w. omega arith) ∙ put_same 𝓡 l (T t) T)

        at_other : (T : ℕ → ℕ → R) (r c : ℕ) → r ≢ t → r ≢ l → put 𝓡 t (T l) (put 𝓡 l (T t) T) r c ≡ T r c
        at_other T r c w w' = ap (λ (v : ℕ → R). v c) (put_other 𝓡 t (T l) (put 𝓡 l (T t) T) r w ∙ put_other 𝓡 l (T t) T r w')

        swaps : (T : ℕ → ℕ → R) → Swapped 𝓡 t l T (put 𝓡 t (T l) (put 𝓡 l (T t) T))
        swaps T = record { first = at_first T; second = at_last T; old = at_other T }

        cleared : (i : ℕ) → i < l → Dec (i ≡ t) → put 𝓡 t (W l) (put 𝓡 l (W t) W) i 0 ≡ 𝟘
        cleared i b (yes w) = ap (λ (r : ℕ). put 𝓡 t (W l) (put 𝓡 l (W t) W) r 0) w ∙ at_first W 0 ∙ z l (omega arith) (λ v. omega arith)
        cleared i b (no w) = at_other W i 0 w (λ v. omega arith) ∙ z i (omega arith) w

        go : (T' T : ℕ → ℕ → R) (i c : ℕ) → i < l → ((i c : ℕ) → i < l → i ≢ t → T' i c ≡ T i c) → ((c : ℕ) → T' t c ≡ T l c)
            → Dec (i ≡ t) → T' i c ≡ put 𝓡 t (T l) (put 𝓡 l (T t) T) i c
        go T' T i c b h k (yes w) =
            ap (λ (r : ℕ). T' r c) w ∙ k c ∙ sym (at_first T c) ∙ ap (λ (r : ℕ). put 𝓡 t (T l) (put 𝓡 l (T t) T) r c) (sym w)
        go T' T i c b h k (no w) = h i c b w ∙ sym (at_other T i c w (λ v. omega arith))

        shifted : (i c : ℕ) → put 𝓡 t (λ c. W l (suc c)) (put 𝓡 l (λ c. W t (suc c)) (λ r c. W r (suc c))) i c
            ≡ put 𝓡 t (W l) (put 𝓡 l (W t) W) i (suc c)
        shifted i c = moved (ℕ_discrete i t) (ℕ_discrete i l)
          where
            moved : Dec (i ≡ t) → Dec (i ≡ l) → put 𝓡 t (λ c. W l (suc c)) (put 𝓡 l (λ c. W t (suc c)) (λ r c. W r (suc c))) i c
                ≡ put 𝓡 t (W l) (put 𝓡 l (W t) W) i (suc c)
            moved (yes w) v =
                ap (λ (r : ℕ). put 𝓡 t (λ c. W l (suc c)) (put 𝓡 l (λ c. W t (suc c)) (λ r c. W r (suc c))) r c) w
                ∙ at_first (λ r c. W r (suc c)) c ∙ sym (at_first W (suc c))
                ∙ ap (λ (r : ℕ). put 𝓡 t (W l) (put 𝓡 l (W t) W) r (suc c)) (sym w)
            moved (no w) (yes v) =
                ap (λ (r : ℕ). put 𝓡 t (λ c. W l (suc c)) (put 𝓡 l (λ c. W t (suc c)) (λ r c. W r (suc c))) r c) v
                ∙ at_last (λ r c. W r (suc c)) c ∙ sym (at_last W (suc c))
                ∙ ap (λ (r : ℕ). put 𝓡 t (W l) (put 𝓡 l (W t) W) r (suc c)) (sym v)
            moved (no w) (no v) = at_other (λ r c. W r (suc c)) i c w v ∙ sym (at_other W i (suc c) w v)
