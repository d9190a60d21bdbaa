-- The steps of the live rows in words: each says how the words change, and that the rows are live again.
--
--   AddedWords m i k y W W'     y times the row i is added to the row k
--   Entered h p w u v           w is h with its top word first, u is x^p and v is 0: a row of f or of g that comes in
--   words_start                 no row is in
--   words_add                   a multiple of a row added to a row
--   words_enter_both, words_enter_first, words_enter_second, words_enter_none     the rows of a column come in
--   words_leave_last, words_leave     the row that is left with the column's only word leaves
--
-- Letters: m is n less 1; W, X, Y are the words and multipliers of the rows before a step, W', X', Y' after it; the others as in LiveRows.
use Rattle.std.specs.Prelude.{◌≡◌, refl, ◌≢◌, List, ℕ, zero, suc, ◌<◌, ◌≤◌, ◌%◌, ◌+◌ as ◌+ℕ◌, ◌*◌ as ◌*ℕ◌, ◌-◌ as ◌-ℕ◌, pos}
use Rattle.std.proofs.Common.{sym, ◌∙◌, ap, ap₂, subst, mod-eq_of_lt, mod-lt, zero-lt-suc, arith}
use native.Mathlib.Fin
use Rattle.std.proofs.Math.Decide.{dec_lt, ℕ_discrete}
use Rattle.definitions.specs.Polynomials.{coef, deg}
use Rattle.law_algebra.specs.Reduction.{reduce_hom}
use Rattle.law_algebra.specs.Residues.{Res, toRes, Res_ring}
use Rattle.law_algebra.specs.Resultant.{shift, shift_low, shift_own, shift_at}
use Rattle.law_algebra.specs.Reverse.{rv, rv_at, rv_out}
use Rattle.law_algebra.specs.Ring.{CRing}
use Rattle.law_algebra.specs.Series.{const}
use Rattle.law_algebra.specs.Stack.{stack, stack_top}
use Rattle.law_algebra.specs.Sum.{sgn}
use Rattle.law_polynomials.specs.ResultantLaws.{signed, signed_is}
use Rattle.law_polynomials.specs.Words.{words, words_out}
use Rattle.law_rows.specs.Band.{snoc}
use Rattle.law_rows.specs.LiveRows.{Live, Added, live_start, live_add, live_in_both, live_in_first, live_in_second, live_in_none}
use Rattle.law_rows.specs.Leaving.{live_same, live_leave, live_leave_last}
use Rattle.law_rows.specs.LiveWords.{LiveWords}

-- h with its top word first, zeros after it; x to the power p; nothing
pub record Entered (h : List ℕ) (p : ℕ) (w u v : ℕ → ℕ) : Type 0 where
  pub head : (c : ℕ) → c ≤ deg h → w c ≡ coef h (deg h -ℕ c)
  pub rest : (c : ℕ) → deg h < c → w c ≡ 0
  pub one : u p ≡ 1
  pub none : (k : ℕ) → k ≢ p → u k ≡ 0
  pub other : (k : ℕ) → v k ≡ 0

snoc_at : {X : Type 0} (l : ℕ) (a : ℕ → X) (v : X) → snoc l a v l ≡ v
snoc_at zero a v = refl
snoc_at (suc l) a v = snoc_at l (λ i. a (suc i)) v

module _ {R : Type 0} where
  one_more : (l : ℕ) (T' T : ℕ → ℕ → R) (u : ℕ → R) → ((i c : ℕ) → i < l → T' i c ≡ T i c) → ((c : ℕ) → T' l c ≡ u c)
      → (i c : ℕ) → i < suc l → T' i c ≡ snoc l T u i c
  one_more l T' T u h k i c b = go (ℕ_discrete i l)
    where
      go : Dec (i ≡ l) → T' i c ≡ snoc l T u i c
      go (yes z) =
          ap (λ (r : ℕ). T' r c) z ∙ k c ∙ ap (λ (v : ℕ → R). v c) (sym (snoc_at l T u)) ∙ ap (λ (r : ℕ). snoc l T u r c) (sym z)
      go (no z) = h i c (omega arith) ∙ ap (λ (v : ℕ → R). v c) (sym (stack_top l T (λ r. u) i (omega arith)))

  two_more : (l : ℕ) (T' T : ℕ → ℕ → R) (u v : ℕ → R) → ((i c : ℕ) → i < l → T' i c ≡ T i c) → ((c : ℕ) → T' l c ≡ u c)
      → ((c : ℕ) → T' (suc l) c ≡ v c) → (i c : ℕ) → i < suc (suc l) → T' i c ≡ snoc (suc l) (snoc l T u) v i c
  two_more l T' T u v h k j = one_more (suc l) T' (snoc l T u) v (one_more l T' T u h k) j

module _ (m : ℕ) where
  -- y times the row i is added to the row k
  pub record AddedWords (i k y : ℕ) (W W' : ℕ → ℕ → ℕ) : Type 0 where
    pub new : (c : ℕ) → W' k c % suc m ≡ (W k c +ℕ y *ℕ W i c) % suc m
    pub old : (r c : ℕ) → r ≢ k → W' r c ≡ W r c

  added : {i k y : ℕ} {W W' : ℕ → ℕ → ℕ} → AddedWords i k y W W'
      → Added (Res_ring m) i k (toRes m y) (λ r c. toRes m (W r c)) (λ r c. toRes m (W' r c))
  added {i} {k} {y} {W} {W'} h = record {
    new = λ c. Fin.val_path (h.new c) ∙ (reduce_hom m).h_add (pos (W k c)) (pos (y *ℕ W i c))
        ∙ ap ((Res_ring m).add (toRes m (W k c))) ((reduce_hom m).h_mul (pos y) (pos (W i c)))
        ∙ (Res_ring m).add_comm (toRes m (W k c)) ((Res_ring m).mul (toRes m y) (toRes m (W i c)));
    old = λ r c z. ap (toRes m) (h.old r c z);
  }

  -- the sign, of a residue
  pub signed_below : (k x : ℕ) → x < suc m → signed (suc m) k x < suc m
  signed_below zero x l = l
  signed_below (suc k) x l = mod-lt _ (zero-lt-suc m)

  signed_res : (k x : ℕ) → x < suc m → sgn (Res_ring m) k (toRes m x) ≡ toRes m (signed (suc m) k x)
  signed_res k x l =
      Fin.val_path (signed_is m k (toRes m x) ∙ ap (signed (suc m) k) (mod-eq_of_lt l) ∙ sym (mod-eq_of_lt (signed_below k x l)))

  signed_product : (k x y : ℕ)
      → sgn (Res_ring m) k ((Res_ring m).mul (toRes m x) (toRes m y)) ≡ toRes m (signed (suc m) k ((x *ℕ y) % suc m))
  signed_product k x y =
      ap (sgn (Res_ring m) k) (sym ((reduce_hom m).h_mul (pos x) (pos y))
      ∙ Fin.val_path (sym (mod-eq_of_lt (mod-lt (x *ℕ y) (zero-lt-suc m)))))
      ∙ signed_res k ((x *ℕ y) % suc m) (mod-lt _ (zero-lt-suc m))

  negated : (x : ℕ) → x < suc m → (Res_ring m).neg (toRes m x) ≡ toRes m ((suc m -ℕ x) % suc m)
  negated x l = signed_res 1 x l

  -- what comes in, as residues
  head_res : {h : List ℕ} {p : ℕ} {w u v : ℕ → ℕ} → Entered h p w u v → (c : ℕ) → toRes m (w c) ≡ rv (Res_ring m) (deg h) (words m h) c
  head_res {h} {p} {w} t c = go (dec_lt (deg h) c)
    where
      go : Dec (deg h < c) → toRes m (w c) ≡ rv (Res_ring m) (deg h) (words m h) c
      go (yes z) = ap (toRes m) (t.rest c z) ∙ sym (rv_out (Res_ring m) (deg h) (words m h) c z)
      go (no z) = ap (toRes m) (t.head c (omega arith)) ∙ sym (rv_at (Res_ring m) (deg h) (words m h) c (deg h -ℕ c) (omega arith))

  one_res : {h : List ℕ} {p : ℕ} {w u v : ℕ → ℕ} → Entered h p w u v
      → (k : ℕ) → toRes m (u k) ≡ shift (Res_ring m) p (const (Res_ring m) (toRes m 1)) k
  one_res {h} {p} {w} {u} t k = go (ℕ_discrete k p) (dec_lt k p)
    where
      past : (j : ℕ) → 1 ≤ j → const (Res_ring m) (toRes m 1) j ≡ toRes m 0
      past zero h = absurd (omega arith)
      past (suc j) h = refl

      go : Dec (k ≡ p) → Dec (k < p) → toRes m (u k) ≡ shift (Res_ring m) p (const (Res_ring m) (toRes m 1)) k
      go (yes z) y =
          ap (λ (j : ℕ). toRes m (u j)) z ∙ ap (toRes m) t.one ∙ sym (shift_own (Res_ring m) p (const (Res_ring m) (toRes m 1)))
          ∙ ap (shift (Res_ring m) p (const (Res_ring m) (toRes m 1))) (sym z)
      go (no z) (yes y) = ap (toRes m) (t.none k z) ∙ sym (shift_low (Res_ring m) p k (const (Res_ring m) (toRes m 1)) y)
      go (no z) (no y) =
          ap (toRes m) (t.none k z)
          ∙ sym (shift_at (Res_ring m) p (const (Res_ring m) (toRes m 1)) k (k -ℕ p) (omega arith) ∙ past (k -ℕ p) (omega arith))

  module _ (f g : List ℕ) where
    pub words_start : (W X Y : ℕ → ℕ → ℕ) → LiveWords m f g 0 0 (deg g) (deg f) 1 W X Y
    words_start W X Y = record { rows = live_start (Res_ring m) (deg f) (deg g) (words m f) (words m g) _ _ _ }

    pub words_add : {s l p q x : ℕ} {W X Y W' X' Y' : ℕ → ℕ → ℕ} (i k y : ℕ) → i < l → k < l → i ≢ k → AddedWords i k y W W'
        → AddedWords i k y X X' → AddedWords i k y Y Y' → LiveWords m f g s l p q x W X Y → LiveWords m f g s l p q x W' X' Y'
    words_add i k y hi hk z w u v t =
        record {
          rows = live_add (Res_ring m) (deg f) (deg g) (words m f) (words m g) i k (toRes m y) hi hk z
              (added w) (added u) (added v) t.rows;
        }

    kept : {l : ℕ} {W W' : ℕ → ℕ → ℕ} → ((i c : ℕ) → i < l → W' i c ≡ W i c) → (i c : ℕ) → i < l → toRes m (W' i c) ≡ toRes m (W i c)
    kept h i c b = ap (toRes m) (h i c b)

    pub words_enter_both : {l p q x : ℕ} {W X Y W' X' Y' : ℕ → ℕ → ℕ} → l +ℕ suc q ≡ deg f → l +ℕ suc p ≡ deg g → x < suc m
        → ((i c : ℕ) → i < l → W' i c ≡ W i c) → ((i c : ℕ) → i < l → X' i c ≡ X i c) → ((i c : ℕ) → i < l → Y' i c ≡ Y i c)
        → Entered f p (W' l) (X' l) (Y' l) → Entered g q (W' (suc l)) (Y' (suc l)) (X' (suc l))
        → LiveWords m f g 0 l (suc p) (suc q) x W X Y → LiveWords m f g 1 (suc (suc l)) p q (signed (suc m) p x) W' X' Y'
    words_enter_both {l} {p} {q} {x} {W} {X} {Y} {W'} {X'} {Y'} hd he b hw hu hv F G t =
        record {
          rows = subst (λ (z : Res m). Live (Res_ring m) (deg f) (deg g) (words m f) (words m g) 1 (suc (suc l)) p q z
              (λ i c. toRes m (W' i c)) (λ i c. toRes m (X' i c)) (λ i c. toRes m (Y' i c))) (signed_res p x b)
              (live_same (Res_ring m) (deg f) (deg g) (words m f) (words m g)
              (two_more l _ _ _ _ (kept hw) (head_res F) (head_res G))
              (two_more l _ _ _ _ (kept hu) (one_res F) (λ c. ap (toRes m) (G.other c)))
              (two_more l _ _ _ _ (kept hv) (λ c. ap (toRes m) (F.other c)) (one_res G))
              (live_in_both (Res_ring m) (deg f) (deg g) (words m f) (words m g) (words_out m f) (words_out m g) hd he t.rows));
        }

    pub words_enter_first : {l p x : ℕ} {W X Y W' X' Y' : ℕ → ℕ → ℕ} → p < deg g → l ≡ deg f
        → ((i c : ℕ) → i < l → W' i c ≡ W i c) → ((i c : ℕ) → i < l → X' i c ≡ X i c) → ((i c : ℕ) → i < l → Y' i c ≡ Y i c)
        → Entered f p (W' l) (X' l) (Y' l) → LiveWords m f g 0 l (suc p) 0 x W X Y → LiveWords m f g 1 (suc l) p 0 x W' X' Y'
    words_enter_first {l} hp hl hw hu hv F t =
        record {
          rows = live_same (Res_ring m) (deg f) (deg g) (words m f) (words m g)
              (one_more l _ _ _ (kept hw) (head_res F)) (one_more l _ _ _ (kept hu) (one_res F))
              (one_more l _ _ _ (kept hv) (λ c. ap (toRes m) (F.other c)))
              (live_in_first (Res_ring m) (deg f) (deg g) (words m f) (words m g) (words_out m f) hp hl t.rows);
        }

    pub words_enter_second : {l q x : ℕ} {W X Y W' X' Y' : ℕ → ℕ → ℕ} → q < deg f → l ≡ deg g
        → ((i c : ℕ) → i < l → W' i c ≡ W i c) → ((i c : ℕ) → i < l → X' i c ≡ X i c) → ((i c : ℕ) → i < l → Y' i c ≡ Y i c)
        → Entered g q (W' l) (Y' l) (X' l) → LiveWords m f g 0 l 0 (suc q) x W X Y → LiveWords m f g 1 (suc l) 0 q x W' X' Y'
    words_enter_second {l} hq hl hw hu hv G t =
        record {
          rows = live_same (Res_ring m) (deg f) (deg g) (words m f) (words m g)
              (one_more l _ _ _ (kept hw) (head_res G)) (one_more l _ _ _ (kept hu) (λ c. ap (toRes m) (G.other c)))
              (one_more l _ _ _ (kept hv) (one_res G))
              (live_in_second (Res_ring m) (deg f) (deg g) (words m f) (words m g) (words_out m g) hq hl t.rows);
        }

    pub words_enter_none : {l x : ℕ} {W X Y : ℕ → ℕ → ℕ} → LiveWords m f g 0 l 0 0 x W X Y → LiveWords m f g 1 l 0 0 x W X Y
    words_enter_none t = record { rows = live_in_none (Res_ring m) (deg f) (deg g) (words m f) (words m g) t.rows }

    -- the last row has the column's only word
    pub words_leave_last : {l p q x : ℕ} {W X Y W' X' Y' : ℕ → ℕ → ℕ} → ((i : ℕ) → i < l → W i 0 ≡ 0)
        → ((i c : ℕ) → i < l → W' i c ≡ W i (suc c)) → ((i c : ℕ) → i < l → X' i c ≡ X i c) → ((i c : ℕ) → i < l → Y' i c ≡ Y i c)
        → LiveWords m f g 1 (suc l) p q x W X Y → LiveWords m f g 0 l p q (signed (suc m) l ((x *ℕ W l 0) % suc m)) W' X' Y'
    words_leave_last {l} {p} {q} {x} {W} {X} {Y} {W'} {X'} {Y'} z hw hu hv t =
        record {
          rows = subst (λ (y : Res m). Live (Res_ring m) (deg f) (deg g) (words m f) (words m g) 0 l p q y
              (λ i c. toRes m (W' i c)) (λ i c. toRes m (X' i c)) (λ i c. toRes m (Y' i c))) (signed_product l x (W l 0))
              (live_leave_last (Res_ring m) (deg f) (deg g) (words m f) (words m g) (λ i b. ap (toRes m) (z i b))
              (λ i c b. ap (toRes m) (hw i c b)) (kept hu) (kept hv) t.rows);
        }

    -- the row t has the column's only word, and the last row takes its place
    pub words_leave : {l p q x : ℕ} {W X Y W' X' Y' : ℕ → ℕ → ℕ} (t : ℕ) → t < l → x < suc m → ((i : ℕ) → i < suc l → i ≢ t → W i 0 ≡ 0)
        → ((i c : ℕ) → i < l → i ≢ t → W' i c ≡ W i (suc c)) → ((c : ℕ) → W' t c ≡ W l (suc c))
        → ((i c : ℕ) → i < l → i ≢ t → X' i c ≡ X i c) → ((c : ℕ) → X' t c ≡ X l c)
        → ((i c : ℕ) → i < l → i ≢ t → Y' i c ≡ Y i c) → ((c : ℕ) → Y' t c ≡ Y l c)
        → LiveWords m f g 1 (suc l) p q x W X Y
        → LiveWords m f g 0 l p q (signed (suc m) l (((suc m -ℕ x) % suc m *ℕ W t 0) % suc m)) W' X' Y'
    words_leave {l} {p} {q} {x} {W} {X} {Y} {W'} {X'} {Y'} t h b z hw kw hu ku hv kv s =
        record {
          rows = subst (λ (y : Res m). Live (Res_ring m) (deg f) (deg g) (words m f) (words m g) 0 l p q y
              (λ i c. toRes m (W' i c)) (λ i c. toRes m (X' i c)) (λ i c. toRes m (Y' i c)))
              (ap (λ (y : Res m). sgn (Res_ring m) l ((Res_ring m).mul y (toRes m (W t 0)))) (negated x b)
              ∙ signed_product l ((suc m -ℕ x) % suc m) (W t 0))
              (live_leave (Res_ring m) (deg f) (deg g) (words m f) (words m g) t h (λ i b w. ap (toRes m) (z i b w))
              (λ i c b w. ap (toRes m) (hw i c b w)) (λ c. ap (toRes m) (kw c))
              (λ i c b w. ap (toRes m) (hu i c b w)) (λ c. ap (toRes m) (ku c))
              (λ i c b w. ap (toRes m) (hv i c b w)) (λ c. ap (toRes m) (kv c)) s.rows);
        }
