-- Sylvester's matrix brought to triangular form column by column, with only the live rows kept. What a loop over the columns keeps has
-- two parts. Of the determinant (Stage): the resultant is x times the determinant of what is left, that is the live rows above the rows
-- of f and g that have not come in. Of the rows (Row): each live row is u f + v g, its words at the columns that are left.
--
--   left l a p A q B       the determinant of l live rows a above p rows of A above q rows of B
--   left_form              it is an alternating form of the live rows: a multiple of a row added to a row (add_row) and the exchange of
--                          rows (exchange) are the laws of law_algebra/Rows
--   come_first, come_second    the next row of A, of B, comes in below the live rows; the second passes the p rows of A
--   column_done            the first live row has the only word of the column that is not 0
--   Stage s l a p q x      the resultant is x times what is left; s is 1 once the column's rows are in, and 0 before
--   stage_start, stage_in_both, stage_in_first, stage_in_second, stage_in_none, stage_add, stage_swap, stage_done, stage_end
--   Row n w u v            the row w, n columns wide, is u f + v g
--   row_first, row_second, row_add, row_next, row_combines
--
-- Letters: f, g are series, the constant first, of degrees d and e; F and G are they with the leading coefficient first; l is the number of
-- live rows, p and q the numbers of the rows of f and of g that have not come in; c is a column, k a place of a product.
use Rattle.std.specs.Prelude.{◌≡◌, refl, ◌≢◌, [], ◌∷◌, ℕ, zero, suc, ◌<◌, ◌≤◌, ◌+◌ as ◌+ℕ◌, ◌-◌ as ◌-ℕ◌}
use Rattle.std.proofs.Math.Path.{sym, fun_ext}
use Rattle.std.proofs.Common.{◌∙◌, ap, ap₂, subst, arith}
use Rattle.std.proofs.Math.Decide.{dec_lt, ℕ_discrete}
use Rattle.law_algebra.specs.Block.{corner}
use Rattle.law_algebra.specs.Determinant.{det, det_cong}
use Rattle.law_algebra.specs.Form.{Form, det_form}
use Rattle.law_algebra.specs.Index.{ins}
use Rattle.law_algebra.specs.MatrixProduct.{over, under}
use Rattle.law_algebra.specs.Normaliser.{by_ring, quote}
use Rattle.law_algebra.specs.Resultant.{shift, shift_zero, shift_low, shift_at, conv_shift, res}
use Rattle.law_algebra.specs.Reverse.{rv, rv_at, rv_out}
use Rattle.law_algebra.specs.Ring.{CRing, add_zero, mul_zero, zero_mul, neg_zero, neg_neg, neg_mul, mul_neg, mul_one}
use Rattle.law_algebra.specs.Rows.{put, put_same, put_other, add_row, exchange, fix_rows, rise, stack_split, over_stack}
use Rattle.law_algebra.specs.SentLaws.{Rs}
use Rattle.law_algebra.specs.Series.{conv, const, Short, conv_lin, conv_const, conv_zero}
use Rattle.law_algebra.specs.Stack.{stack, stack_map, stack_all, rows_cong, up, up_is, up_suc}
use Rattle.law_algebra.specs.Sum.{sgn, sgn_mul}

-- the first l of a, then v
abbrev pub snoc : {X : Type 0} → ℕ → (ℕ → X) → X → ℕ → X
snoc l a v = stack l a (λ i. v)

pub snoc_is : {X : Type 0} (l : ℕ) (a b : ℕ → X) (r : ℕ) → stack l a b r ≡ stack (suc l) (snoc l a (b 0)) (λ i. b (suc i)) r
snoc_is zero a b zero = refl
snoc_is zero a b (suc r) = refl
snoc_is (suc l) a b zero = refl
snoc_is (suc l) a b (suc r) = snoc_is l (λ i. a (suc i)) b r

module _ {R : Type 0} (𝓡 : CRing R) where
  open 𝓡 use {add as ◌+◌, mul as ◌*◌, neg as -◌, nil as 𝟘, unit as 𝟙, mul_assoc, mul_comm, one_mul, zero_add, mul_add}

  infixl 65 ◌+◌
  infixl 70 ◌*◌
  infix 75 -◌
  abbrev pub left : (l : ℕ) → (ℕ → ℕ → R) → (p : ℕ) → (ℕ → ℕ → R) → (q : ℕ) → (ℕ → ℕ → R) → R
  left l a p A q B = det 𝓡 (up l (up p q)) (stack l a (stack p A B))

  -- a form of the live rows
  pub left_form : (l p q : ℕ) (A B : ℕ → ℕ → R) → Form 𝓡 l (up l (up p q)) (λ a. left l a p A q B)
  left_form l p q A B =
      subst (Form 𝓡 l (up l (up p q))) (fun_ext (λ a. ap (det 𝓡 (up l (up p q))) (fun_ext (over_stack 𝓡 l a none (stack p A B)))))
      (under 𝓡 (det_form 𝓡 (up l (up p q))) l (omega (arith, up_is l (up p q))) (stack l none (stack p A B)))
    where
      none : ℕ → ℕ → R
      none r c = 𝟘

  -- the next row of A comes in
  pub come_first : (l p q : ℕ) (a A B : ℕ → ℕ → R) → left l a (suc p) A q B ≡ left (suc l) (snoc l a (A 0)) p (λ i. A (suc i)) q B
  come_first l p q a A B = ap₂ (λ (n : ℕ) (m : ℕ → ℕ → R). det 𝓡 n m) (up_suc l (up p q)) (fun_ext (snoc_is l a (stack (suc p) A B)))

  -- the next row of B comes in, past the p rows of A
  pub come_second : (l p q : ℕ) (a A B : ℕ → ℕ → R)
      → left l a p A (suc q) B ≡ sgn 𝓡 p (left (suc l) (snoc l a (B 0)) p A q (λ i. B (suc i)))
  come_second l p q a A B =
      ap₂ (λ (n : ℕ) (m : ℕ → ℕ → R). det 𝓡 (up l n) (stack l a m)) (up_suc p q) (fun_ext (stack_split 𝓡 p A B))
      ∙ rise 𝓡 (fix_rows 𝓡 l (det_form 𝓡 (up l (suc (up p q)))) a) p (omega (arith, up_is p q)) (B 0) (stack p A (λ i. B (suc i)))
      ∙ ap (sgn 𝓡 p) (ap₂ (λ (n : ℕ) (m : ℕ → ℕ → R). det 𝓡 n m) (up_suc l (up p q))
      (fun_ext (snoc_is l a (ins 0 (B 0) (stack p A (λ i. B (suc i)))))))

  -- no row of B is left: B does not count
  pub second_empty : (l p : ℕ) (a A B B' : ℕ → ℕ → R) → left l a p A 0 B ≡ left l a p A 0 B'
  second_empty l p a A B B' = det_cong 𝓡 (up l (up p 0)) _ _
      (λ r c x y. rows_cong c l (up p 0) a (stack p A B) a (stack p A B') (λ i t. refl)
      (λ i t. rows_cong c p 0 A B A B' (λ i t. refl) (λ i t. absurd (omega arith)) i t) r x)

  -- the first live row has the only word of the first column that may be other than 0
  pub column_done : (l p q : ℕ) (a A B : ℕ → ℕ → R) → ((i : ℕ) → i < l → a (suc i) 0 ≡ 𝟘) → ((i : ℕ) → i < p → A i 0 ≡ 𝟘)
      → ((i : ℕ) → i < q → B i 0 ≡ 𝟘)
      → left (suc l) a p A q B ≡ a 0 0 * left l (λ i c. a (suc i) (suc c)) p (λ i c. A i (suc c)) q (λ i c. B i (suc c))
  column_done l p q a A B za zA zB =
      corner 𝓡 (up l (up p q)) (stack (suc l) a (stack p A B))
      (λ i t. stack_all (λ r (v : ℕ → R). v 0 ≡ 𝟘) l (up p q) (λ i. a (suc i)) (stack p A B) za
      (λ i t. stack_all (λ r (v : ℕ → R). v 0 ≡ 𝟘) p q A B zA zB i t) i t)
      ∙ ap (λ (m : ℕ → ℕ → R). a 0 0 * det 𝓡 (up l (up p q)) m) (fun_ext (λ r.
      stack_map {Y = ℕ → R} (λ (v : ℕ → R) (c : ℕ). v (suc c)) l (λ i. a (suc i)) (stack p A B) r
      ∙ ap (λ (b : ℕ → ℕ → R). stack l (λ i c. a (suc i) (suc c)) b r)
      (fun_ext (λ i. stack_map {Y = ℕ → R} (λ (v : ℕ → R) (c : ℕ). v (suc c)) p A B i))))

  swapped : {l n : ℕ} {D : (ℕ → ℕ → R) → R} → Form 𝓡 l n D → (i k : ℕ) → i < l → k < l → i ≢ k → (a b : ℕ → ℕ → R)
      → ((c : ℕ) → c < n → b i c ≡ a k c) → ((c : ℕ) → c < n → b k c ≡ a i c)
      → ((r c : ℕ) → r < l → c < n → r ≢ i → r ≢ k → b r c ≡ a r c) → D b ≡ - D a
  swapped {l} {n} {D} F i k p q z a b hi hk h =
      F.cong b (put 𝓡 i (a k) (put 𝓡 k (a i) a)) (λ r c x y. go r c x y (ℕ_discrete r i) (ℕ_discrete r k)) ∙ exchange 𝓡 F i k p q z a
    where
      go : (r c : ℕ) → r < l → c < n → Dec (r ≡ i) → Dec (r ≡ k) → b r c ≡ put 𝓡 i (a k) (put 𝓡 k (a i) a) r c
      go r c x y (yes s) t =
          ap (λ (j : ℕ). b j c) s ∙ hi c y ∙ ap (λ (v : ℕ → R). v c) (sym (put_same 𝓡 i (a k) (put 𝓡 k (a i) a)))
          ∙ ap (λ (j : ℕ). put 𝓡 i (a k) (put 𝓡 k (a i) a) j c) (sym s)
      go r c x y (no s) (yes t) =
          ap (λ (j : ℕ). b j c) t ∙ hk c y
          ∙ ap (λ (v : ℕ → R). v c) (sym (put_other 𝓡 i (a k) (put 𝓡 k (a i) a) k (λ w. z (sym w)) ∙ put_same 𝓡 k (a i) a))
          ∙ ap (λ (j : ℕ). put 𝓡 i (a k) (put 𝓡 k (a i) a) j c) (sym t)
      go r c x y (no s) (no t) =
          h r c x y s t ∙ ap (λ (v : ℕ → R). v c) (sym (put_other 𝓡 i (a k) (put 𝓡 k (a i) a) r s ∙ put_other 𝓡 k (a i) a r t))

  module _ (d e : ℕ) (f g : ℕ → R) where
    -- row i of f, and of g, that has not come in; s columns to the right
    abbrev pub of_first : ℕ → ℕ → ℕ → R
    of_first s i = shift 𝓡 (up s i) (rv 𝓡 d f)

    abbrev pub of_second : ℕ → ℕ → ℕ → R
    of_second s i = shift 𝓡 (up s i) (rv 𝓡 e g)

    -- the resultant is x times what is left
    pub record Stage (s l : ℕ) (a : ℕ → ℕ → R) (p q : ℕ) (x : R) : Type 0 where
      pub value : Rs 𝓡 d e f g ≡ x * left l a p (of_first s) q (of_second s)

    pub stage_start : (a : ℕ → ℕ → R) → Stage 0 0 a e d 𝟙
    unfolding res
    stage_start a = record { value = sym (one_mul _) }

    sign : (p : ℕ) (x y : R) → x * sgn 𝓡 p y ≡ sgn 𝓡 p x * y
    sign p x y = sgn_mul 𝓡 p x y ∙ ap (sgn 𝓡 p) (mul_comm x y) ∙ sym (sgn_mul 𝓡 p y x) ∙ mul_comm y (sgn 𝓡 p x)

    -- a row of f and a row of g come in
    pub stage_in_both : {l p q : ℕ} {a : ℕ → ℕ → R} {x : R} → Stage 0 l a (suc p) (suc q) x
        → Stage 1 (suc (suc l)) (snoc (suc l) (snoc l a (rv 𝓡 d f)) (rv 𝓡 e g)) p q (sgn 𝓡 p x)
    stage_in_both {l} {p} {q} {a} {x} s = record {
      value = s.value ∙ ap (λ y. x * y) (come_first l p (suc q) a (of_first 0) (of_second 0)
          ∙ come_second (suc l) p q (snoc l a (rv 𝓡 d f)) (of_first 1) (of_second 0)) ∙ sign p x _;
    }

    -- only f has rows
    pub stage_in_first : {l p : ℕ} {a : ℕ → ℕ → R} {x : R} → Stage 0 l a (suc p) 0 x → Stage 1 (suc l) (snoc l a (rv 𝓡 d f)) p 0 x
    stage_in_first {l} {p} {a} {x} s = record {
      value = s.value ∙ ap (λ y. x * y) (come_first l p 0 a (of_first 0) (of_second 0)
          ∙ second_empty (suc l) p (snoc l a (rv 𝓡 d f)) (of_first 1) (of_second 0) (of_second 1));
    }

    -- only g has rows
    pub stage_in_second : {l q : ℕ} {a : ℕ → ℕ → R} {x : R} → Stage 0 l a 0 (suc q) x → Stage 1 (suc l) (snoc l a (rv 𝓡 e g)) 0 q x
    stage_in_second {l} {q} {a} {x} s = record { value = s.value ∙ ap (λ y. x * y) (come_second l 0 q a (of_first 0) (of_second 0)) }

    pub stage_in_none : {l : ℕ} {a : ℕ → ℕ → R} {x : R} → Stage 0 l a 0 0 x → Stage 1 l a 0 0 x
    stage_in_none {l} {a} {x} s = record {
      value = s.value ∙ ap (λ y. x * y) (second_empty l 0 a (of_first 0) (of_second 0) (of_second 1));
    }

    -- y times the live row i is added to the live row k
    pub stage_add : {s l p q : ℕ} {x : R} (a b : ℕ → ℕ → R) (i k : ℕ) (y : R) → i < l → k < l → i ≢ k
        → ((c : ℕ) → c < up l (up p q) → b k c ≡ y * a i c + a k c) → ((r c : ℕ) → r < l → c < up l (up p q) → r ≢ k → b r c ≡ a r c)
        → Stage s l a p q x → Stage s l b p q x
    stage_add {s} {l} {p} {q} {x} a b i k y hi hk z new old t = record {
      value = t.value ∙ ap (λ v. x * v) (sym (add_row 𝓡 (left_form l p q (of_first s) (of_second s)) i k hi hk z y a b new old));
    }

    -- two live rows change places, and x its sign
    pub stage_swap : {s l p q : ℕ} {x : R} (a b : ℕ → ℕ → R) (i k : ℕ) → i < l → k < l → i ≢ k
        → ((c : ℕ) → c < up l (up p q) → b i c ≡ a k c) → ((c : ℕ) → c < up l (up p q) → b k c ≡ a i c)
        → ((r c : ℕ) → r < l → c < up l (up p q) → r ≢ i → r ≢ k → b r c ≡ a r c)
        → Stage s l a p q x → Stage s l b p q (- x)
    stage_swap {s} {l} {p} {q} {x} a b i k hi hk z new other old t = record {
      value = t.value ∙ round x _ _ (swapped (left_form l p q (of_first s) (of_second s)) i k hi hk z a b new other old);
    }
      where
        round : (x y w : R) → w ≡ - y → x * y ≡ (- x) * w
        round x y w h = sym (ap (λ v. (- x) * v) h ∙ neg_mul 𝓡 x (- y) ∙ ap (λ v. - v) (mul_neg 𝓡 x y) ∙ neg_neg 𝓡 (x * y))

    -- the column is cleared below the first live row, which is not needed again
    pub stage_done : {l p q : ℕ} {x : R} (a : ℕ → ℕ → R) → ((i : ℕ) → i < l → a (suc i) 0 ≡ 𝟘) → Stage 1 (suc l) a p q x
        → Stage 0 l (λ i c. a (suc i) (suc c)) p q (x * a 0 0)
    stage_done {l} {p} {q} {x} a h t = record {
      value = t.value ∙ ap (λ y. x * y) (column_done l p q a (of_first 1) (of_second 1) h (λ i b. refl) (λ i b. refl))
          ∙ sym (mul_assoc x (a 0 0) _);
    }

    -- nothing is left
    pub stage_end : {x : R} {a : ℕ → ℕ → R} → Stage 0 0 a 0 0 x → Rs 𝓡 d e f g ≡ x
    unfolding det
    stage_end {x} t = t.value ∙ mul_one 𝓡 x

    -- w, of n columns, is u f + v g
    pub record Row (n : ℕ) (w u v : ℕ → R) : Type 0 where
      pub short_u : Short 𝓡 e u
      pub short_v : Short 𝓡 d v
      pub at : (c k : ℕ) → suc (c +ℕ k) ≡ n → w c ≡ conv 𝓡 u f k + conv 𝓡 v g k
      pub above : (k : ℕ) → n ≤ k → conv 𝓡 u f k + conv 𝓡 v g k ≡ 𝟘

    -- a multiple of a row added to a row
    pub row_add : {n : ℕ} {w u v w' u' v' : ℕ → R} (y : R) → Row n w u v → Row n w' u' v'
        → Row n (λ c. y * w c + w' c) (λ k. y * u k + u' k) (λ k. y * v k + v' k)
    row_add {n} {w} {u} {v} {w'} {u'} {v'} y r t = record {
      short_u = record { out = λ k l. none (r.short_u.out k l) (t.short_u.out k l) };
      short_v = record { out = λ k l. none (r.short_v.out k l) (t.short_v.out k l) };
      at = λ c k h. ap₂ (λ s z. y * s + z) (r.at c k h) (t.at c k h) ∙ sym (both k);
      above = λ k l. both k ∙ none (r.above k l) (t.above k l);
    }
      where
        none : {s z : R} → s ≡ 𝟘 → z ≡ 𝟘 → y * s + z ≡ 𝟘
        none hs hz = ap₂ (λ s z. y * s + z) hs hz ∙ ap (λ s. s + 𝟘) (mul_zero 𝓡 y) ∙ zero_add 𝟘

        round : (y a b c d : R) → y * a + b + (y * c + d) ≡ y * (a + c) + (b + d)
        round y a b c d = by_ring 𝓡 (y ∷ a ∷ b ∷ c ∷ d ∷ []) (search quote depth 20) (search quote depth 20) refl

        both : (k : ℕ) → conv 𝓡 (λ k. y * u k + u' k) f k + conv 𝓡 (λ k. y * v k + v' k) g k
            ≡ y * (conv 𝓡 u f k + conv 𝓡 v g k) + (conv 𝓡 u' f k + conv 𝓡 v' g k)
        both k = ap₂ ◌+◌ (conv_lin 𝓡 y u u' f k) (conv_lin 𝓡 y v v' g k)
            ∙ round y (conv 𝓡 u f k) (conv 𝓡 u' f k) (conv 𝓡 v g k) (conv 𝓡 v' g k)

    -- the next column, where the row has 0
    pub row_next : {n : ℕ} {w u v : ℕ → R} → Row (suc n) w u v → w 0 ≡ 𝟘 → Row n (λ c. w (suc c)) u v
    row_next {n} {w} {u} {v} r z = record {
      short_u = r.short_u;
      short_v = r.short_v;
      at = λ c k h. r.at (suc c) k (omega arith);
      above = λ k l. go k l (dec_lt n k);
    }
      where
        go : (k : ℕ) → n ≤ k → Dec (n < k) → conv 𝓡 u f k + conv 𝓡 v g k ≡ 𝟘
        go k l (yes h) = r.above k h
        go k l (no h) = sym (r.at 0 k (omega arith)) ∙ z

    -- the last row: x times it are the cofactors of the resultant
    pub row_combines : {w u v : ℕ → R} (x : R) → Row 1 w u v → Rs 𝓡 d e f g ≡ x * w 0
        → (k : ℕ) → conv 𝓡 (λ k. x * u k) f k + conv 𝓡 (λ k. x * v k) g k ≡ const 𝓡 (Rs 𝓡 d e f g) k
    row_combines {w} {u} {v} x r h k = ap₂ ◌+◌ (scaled u f k) (scaled v g k) ∙ sym (mul_add x (conv 𝓡 u f k) (conv 𝓡 v g k)) ∙ go k
      where
        scaled : (a h : ℕ → R) (k : ℕ) → conv 𝓡 (λ k. x * a k) h k ≡ x * conv 𝓡 a h k
        scaled a h k =
            ap (λ (b : ℕ → R). conv 𝓡 b h k) (fun_ext (λ k. sym (add_zero 𝓡 (x * a k)))) ∙ conv_lin 𝓡 x a (λ k. 𝟘) h k
            ∙ ap (λ y. x * conv 𝓡 a h k + y) (conv_zero 𝓡 (λ k. 𝟘) h (λ i. refl) k) ∙ add_zero 𝓡 _

        go : (k : ℕ) → x * (conv 𝓡 u f k + conv 𝓡 v g k) ≡ const 𝓡 (Rs 𝓡 d e f g) k
        go zero = ap (λ y. x * y) (sym (r.at 0 0 (omega arith))) ∙ sym h
        go (suc k) = ap (λ y. x * y) (r.above (suc k) (omega arith)) ∙ mul_zero 𝓡 x

  -- f and g exchanged
  pub row_flip : {d e n : ℕ} {f g w u v : ℕ → R} → Row d e f g n w u v → Row e d g f n w v u
  row_flip r = record {
    short_u = r.short_v;
    short_v = r.short_u;
    at = λ c k h. r.at c k h ∙ 𝓡.add_comm _ _;
    above = λ k h. 𝓡.add_comm _ _ ∙ r.above k h;
  }

  -- x to the i times f comes in where i + d + 1 columns are left
  pub row_first : (d e i : ℕ) (f g : ℕ → R) → ((k : ℕ) → d < k → f k ≡ 𝟘) → i < e
      → Row d e f g (suc (i +ℕ d)) (rv 𝓡 d f) (shift 𝓡 i (const 𝓡 𝟙)) (λ k. 𝟘)
  row_first d e i f g zf l = record {
    short_u = record { out = λ k h. shift_zero 𝓡 i 1 (const 𝓡 𝟙) ones k (omega (arith, up_is i 1)) };
    short_v = record { out = λ k h. refl };
    at = λ c k h. entry c k h (dec_lt d c) ∙ sym (is k);
    above = λ k h. is k ∙ shift_at 𝓡 i f k (k -ℕ i) (omega arith) ∙ zf (k -ℕ i) (omega arith);
  }
    where
      ones : (k : ℕ) → 1 ≤ k → const 𝓡 𝟙 k ≡ 𝟘
      ones zero h = absurd (omega arith)
      ones (suc k) h = refl

      is : (k : ℕ) → conv 𝓡 (shift 𝓡 i (const 𝓡 𝟙)) f k + conv 𝓡 (λ k. 𝟘) g k ≡ shift 𝓡 i f k
      is k =
          ap₂ ◌+◌ (conv_shift 𝓡 i (const 𝓡 𝟙) f k ∙ ap (λ (h : ℕ → R). shift 𝓡 i h k) (fun_ext (λ c. conv_const 𝓡 𝟙 f c ∙ one_mul (f c))))
          (conv_zero 𝓡 (λ k. 𝟘) g (λ i. refl) k) ∙ add_zero 𝓡 (shift 𝓡 i f k)

      entry : (c k : ℕ) → suc (c +ℕ k) ≡ suc (i +ℕ d) → Dec (d < c) → rv 𝓡 d f c ≡ shift 𝓡 i f k
      entry c k h (yes t) = rv_out 𝓡 d f c t ∙ sym (shift_low 𝓡 i k f (omega arith))
      entry c k h (no t) = rv_at 𝓡 d f c (d -ℕ c) (omega arith) ∙ sym (shift_at 𝓡 i f k (d -ℕ c) (omega arith))

  pub row_second : (d e i : ℕ) (f g : ℕ → R) → ((k : ℕ) → e < k → g k ≡ 𝟘) → i < d
      → Row d e f g (suc (i +ℕ e)) (rv 𝓡 e g) (λ k. 𝟘) (shift 𝓡 i (const 𝓡 𝟙))
  row_second d e i f g zg l = row_flip (row_first e d i g f zg l)
