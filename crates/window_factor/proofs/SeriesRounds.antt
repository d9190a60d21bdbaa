-- What a round of `series_inverse` keeps, at any width: the product of the words so far is s U_0 so far.
--
--   word_is    the word that `series_word` makes
--   Growing    the invariant, with its start, round and end
--   unit_by, series_by    the modulus of the record is n
--   series, modulus_of    the rules
use mathlib.Core.Path.{◌≡◌, refl, sym, ap, ap₂, subst, ◌∙◌}
use mathlib.Core.List.{List}
use mathlib.Core.Logic.{⊎_elim}
use Prim.Native.Nat.{ℕ, zero, suc, ◌+◌, ◌-◌, ◌*◌, ◌%◌, ◌≤◌, ◌<◌}
use native.Mathlib.Omega.{arith}
use native.Mathlib.Nat.{mod-lt, mul-mod_right, zero-mod, one-mul, eq-or-lt_of_le}
use borrow.Author.Rules.{rules}
use lib.ListN.{length, get_or, set, take, drop, length-set}
use lib.Seq.{get_or-set_same, get_or-set_other}
use Rattle.law_numbers.specs.Congruence.{Cong, c_refl, c_sym, c_trans, c_eq, c_add, c_mul, c_mod}
use Rattle.definitions.specs.Polynomials.{coef, convolve, constant}
use Rattle.law_polynomials.specs.Words.{total_cong, convolve_zero, convolve_suc}
use Rattle.convolution.specs.Sums.{convolve_comm}
use Rattle.windows.specs.Window.{piece, Below}
use Rattle.windows.proofs.Leaf.{lt_or_le, piece_at, piece_over}
use Rattle.windows.proofs.Lift.{piece_low}
use Rattle.window_factor.specs.Factors.{next_word, SeriesAsked, Series}

-- ---- the words that `series_word` reads

-- the slice after the constant of U
tail_words : (w : List ℕ) (k m : ℕ) → m ≡ k → (x : ℕ) → coef (take m (drop 1 w)) x ≡ coef (piece w 0 (k + 1)) (suc x)
unfolding piece
tail_words w k m e x =
    ⊎_elim
    (λ l. piece_at w 1 m x (omega arith) ∙ ap (λ (y : ℕ). get_or w y 0) (let z : 1 + x ≡ 0 + suc x = omega arith in z)
    ∙ sym (piece_at w 0 (k + 1) (suc x) (omega arith)))
    (λ l. piece_over w 1 m x (omega arith) ∙ sym (piece_over w 0 (k + 1) (suc x) (omega arith)))
    (lt_or_le x k)

series_words : (w : List ℕ) (k j m : ℕ) → m ≡ j → take m (drop (k + 1) w) ≡ piece w (k + 1) j
unfolding piece
series_words w k j m e = ap (λ (y : ℕ). take y (drop (k + 1) w)) e

-- the word, as `product_word` and `mul_mod` make it
pub word_is : (n i s k j : ℕ) (w : List ℕ) (x r : ℕ)
    → x ≡ convolve (coef (take (k + 1 - 1) (drop 1 w))) (coef (take (k + 1 + j - (k + 1)) (drop (k + 1) w))) (j - 1) % n
    → r ≡ ((n - i) * x) % n → (j ≡ 0 → ⊥) → r ≡ next_word n i s (coef (piece w 0 (k + 1))) (coef (piece w (k + 1) j)) j
word_is n i s k zero w x r ex er ne = absurd (ne refl)
word_is n i s k (suc j) w x r ex er ne =
    let z : suc j - 1 ≡ j = omega arith in
    er ∙ ap (λ (y : ℕ). ((n - i) * y) % n) (ex
    ∙ ap₂ (λ (y : List ℕ) (v : ℕ). convolve (coef (take (k + 1 - 1) (drop 1 w))) (coef y) v % n)
    (series_words w k (suc j) (k + 1 + suc j - (k + 1)) (omega arith)) z
    ∙ ap (λ (y : ℕ). y % n) (total_cong (suc j) _ _ (λ y b. ap (λ (v : ℕ). v * coef (piece w (k + 1) (suc j)) (j - y))
    (tail_words w k (k + 1 - 1) (omega arith) y))))

-- ---- the round

series_start : (n k s : ℕ) (w : List ℕ) → Series n k s 0 w w
series_start n k s w = record {
  around = record { same = refl; low = λ x l. refl; high = λ x l. refl };
  below = record { at = λ x l. absurd (omega arith) };
  equation = λ j l. absurd (omega arith);
}

-- a word more: U_0 v + x is 0 where v = - i x
cancels : (n i u x : ℕ) → i ≤ n → (i * u) % n ≡ 1 % n → Cong n (u * (((n - i) * (x % n)) % n) + x) 0
cancels n i u x l one =
    c_trans (c_add (c_mul (c_refl {a = u}) (c_trans (c_mod ((n - i) * (x % n))) (c_mul (c_refl {a = n - i}) (c_mod x))))
    (c_trans (c_eq (sym (one-mul x))) (c_mul (c_sym (record { same = one })) (c_refl {a = x}))))
    (c_trans (c_eq {b = n * (u * x)} (sums (n - i) (omega arith))) (record { same = mul-mod_right n (u * x) ∙ sym (zero-mod n) }))
  where
    sums : (m : ℕ) → m + i ≡ n → u * (m * x) + i * u * x ≡ n * (u * x)
    sums m e = rw (← e) (omega arith)

-- below place m two factors that agree there have one product
same_below : (p q u : ℕ → ℕ) (m : ℕ) → ((x : ℕ) → x < m → p x ≡ q x) → (j : ℕ) → j < m → convolve p u j ≡ convolve q u j
same_below p q u m h j l = total_cong (suc j) _ _ (λ x b. ap (λ (y : ℕ). y * u (j - x)) (h x (omega arith)))

module _ (n k i s j v : ℕ) (w₀ w : List ℕ) (pos : 0 < n) (less : s < n) (li : i ≤ n) (unit : (i * coef (piece w₀ 0 (k + 1)) 0) % n ≡ 1 % n)
    (fits : k + 1 + j < length w₀) (sr : Series n k s j w₀ w)
    (is : v ≡ next_word n i s (coef (piece w 0 (k + 1))) (coef (piece w (k + 1) j)) j) where
  w' : List ℕ
  w' = set w (k + 1 + j) v

  U : ℕ → ℕ
  U = coef (piece w₀ 0 (k + 1))

  Y : ℕ → ℕ
  Y = coef (piece w (k + 1) j)

  Y' : ℕ → ℕ
  Y' = coef (piece w' (k + 1) (j + 1))

  same_U : piece w 0 (k + 1) ≡ piece w₀ 0 (k + 1)
  same_U = piece_low sr.around 0 (k + 1) (omega arith) (omega arith)

  older : (x : ℕ) → x < j → Y' x ≡ Y x
  unfolding Y Y' w'
  older x l = piece_at w' (k + 1) (j + 1) x (omega arith) ∙ get_or-set_other w (k + 1 + j) (k + 1 + x) v 0 (omega arith)
      ∙ sym (piece_at w (k + 1) j x l)

  newest : Y' j ≡ v
  unfolding Y' w'
  newest = piece_at w' (k + 1) (j + 1) j (omega arith) ∙ get_or-set_same w (k + 1 + j) v 0 (omega (arith, sr.around.same))

  value : (h : ℕ) → h ≡ j → v ≡ next_word n i s U Y h
  unfolding U Y
  value h e = is ∙ ap (λ (y : List ℕ). next_word n i s (coef y) Y j) same_U ∙ ap (next_word n i s U Y) (sym e)

  unit_is : (i * U 0) % n ≡ 1 % n
  unfolding U
  unit_is = unit

  now_at : (h : ℕ) → h ≡ j → convolve Y' U h % n ≡ constant (s * U 0) h % n
  now_at zero e = ap (λ (y : ℕ). y % n) (convolve_zero Y' U ∙ ap (λ (y : ℕ). y * U 0) (ap Y' e ∙ newest ∙ value zero e))
  now_at (suc h) e =
      let X : ℕ = convolve (λ x. U (suc x)) Y h in
      ap (λ (y : ℕ). y % n)
      (convolve_comm Y' U (suc h) ∙ convolve_suc U Y' h
      ∙ ap₂ (λ (a b : ℕ). U 0 * a + b) (ap Y' e ∙ newest ∙ value (suc h) e)
      (convolve_comm (λ x. U (suc x)) Y' h ∙ same_below Y' Y (λ x. U (suc x)) j older h (omega arith) ∙ convolve_comm Y (λ x. U (suc x)) h))
      ∙ (cancels n i (U 0) X li unit_is).same

  small : v < n
  small = ⊎_elim (λ e. subst (λ (y : ℕ). y < n) (sym (value 0 e)) less)
      (λ l. subst (λ (y : ℕ). y < n) (sym (value (suc (j - 1)) (omega arith))) (mod-lt _ pos))
      (eq-or-lt_of_le (let z : 0 ≤ j = omega arith in z))

  series_step : Series n k s (j + 1) w₀ (set w (k + 1 + j) v)
  unfolding U Y Y' w'
  series_step = record {
    around = record {
      same = length-set w (k + 1 + j) v ∙ sr.around.same;
      low = λ x h. get_or-set_other w (k + 1 + j) x v 0 (omega arith) ∙ sr.around.low x h;
      high = λ x h. get_or-set_other w (k + 1 + j) x v 0 (omega arith) ∙ sr.around.high x (omega arith);
    };
    below = record {
      at = λ x h. ⊎_elim
          (λ l. subst (λ (y : ℕ). y < n) (sym (get_or-set_other w (k + 1 + j) (k + 1 + x) v 0 (omega arith))) (sr.below.at x l))
          (λ l. let e : x ≡ j = omega arith in
          subst (λ (y : ℕ). y < n) (sym (ap (λ (y : ℕ). get_or w' (k + 1 + y) 0) e
          ∙ get_or-set_same w (k + 1 + j) v 0 (omega (arith, sr.around.same)))) small)
          (lt_or_le x j);
    };
    equation = λ h l. ⊎_elim
        (λ b. ap (λ (y : ℕ). y % n) (same_below Y' Y U j older h b) ∙ sr.equation h b)
        (λ b. now_at h (omega arith))
        (lt_or_le h j);
  }

-- ---- as the code has it

pub record Growing (n k s len : ℕ) (w₀ w : List ℕ) (j : ℕ) : Type 0 where
  pub most : j ≤ len
  pub done : Series n k s j w₀ w

pub growing_start : (n k s len : ℕ) (w : List ℕ) → Growing n k s len w w 0
growing_start n k s len w = record { most = omega arith; done = series_start n k s w }

module _ (n k i s len j : ℕ) (w₀ w : List ℕ) (x : Growing n k s len w₀ w j) (less : s < n) (li : i ≤ n)
    (fits : k + 1 + len ≤ length w₀) (l : j < len) where
  pub word_asked : SeriesAsked n k i j w
  word_asked = record { positive = omega arith; inverse = li; fits = omega (arith, x.done.around.same) }

  pub growing_next : (v j' : ℕ) (w' : List ℕ) → (i * coef (piece w₀ 0 (k + 1)) 0) % n ≡ 1 % n
      → v ≡ next_word n i s (coef (piece w 0 (k + 1))) (coef (piece w (k + 1) j)) j → w' ≡ set w (k + 1 + j) v → j' ≡ j + 1
      → Growing n k s len w₀ w' j'
  growing_next v j' w' unit is ew ej =
      rw (ew, ej)
      (record { most = omega arith; done = series_step n k i s j v w₀ w (omega arith) less li unit (omega arith) x.done is })

pub growing_end : (n k s len j : ℕ) (w₀ w : List ℕ) → Growing n k s len w₀ w j → len ≤ j → Series n k s len w₀ w
growing_end n k s len j w₀ w x h = let e : j ≡ len = omega (arith, x.most) in rw e at x.done

-- ---- the modulus of the record is n

pub unit_by : {n n' : ℕ} (i x : ℕ) → n' ≡ n → (i * x) % n ≡ 1 % n → (i * x) % n' ≡ 1 % n'
unit_by i x e h = rw e h

pub series_by : {n n' k s len : ℕ} {w₀ w : List ℕ} → Series n' k s len w₀ w → n' ≡ n → Series n k s len w₀ w
series_by h e = rw e at h

pub ruleset modulus_of = (rules, unit_by, series_by)

pub ruleset series = (rules, word_is, growing_start, word_asked, growing_next, growing_end)
