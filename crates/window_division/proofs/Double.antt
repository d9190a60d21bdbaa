-- Two rounds of the division at once. Assumes nothing.
use mathlib.Core.Path.{◌≡◌, refl, sym, ap, ap₂, subst, ◌∙◌}
use mathlib.Core.List.{List}
use mathlib.Core.Logic.{⊎_elim}
use Prim.Native.Nat.{ℕ, zero, suc, ◌+◌, ◌-◌, ◌*◌, ◌%◌, ◌≤◌, ◌<◌}
use native.Mathlib.Omega.{arith}
use native.Mathlib.Nat.{mod-lt, mul-mod_right, zero-mod, add-zero, add_assoc, mul-zero, mul-one, eq-or-lt_of_le}
use lib.ListN.{get_or}
use Rattle.law_numbers.specs.Congruence.{Cong, c_refl, c_trans, c_eq, c_add, c_mul, c_mod, ring}
use Rattle.definitions.specs.Polynomials.{coef, convolve}
use Rattle.windows.specs.Window.{piece, Apart}
use Rattle.windows.proofs.Leaf.{lt_or_le, piece_at, piece_over, apart_at}
use Rattle.window_division.proofs.DivisionRounds.{Dividing, convolve_add, convolve_spot, spot, spot_off, risen, risen_at, risen_low}
use Rattle.windows.specs.Window.{Paired, behind}

-- c y + m z taken away and put back
pub back_two : (n x c y m z : ℕ) → c < n → m < n → Cong n (c * y + m * z + (x + (n - c) * y + (n - m) * z) % n) x
back_two n x c y m z hc hm =
    c_trans (c_add c_refl (c_mod (x + (n - c) * y + (n - m) * z)))
    (c_trans (c_eq (sums (n - c) (n - m) (omega arith) (omega arith)))
    (c_trans (c_add c_refl (record { same = mul-mod_right n (y + z) ∙ sym (zero-mod n) })) (c_eq (add-zero x))))
  where
    both : (p q : ℕ) → c * y + m * z + (x + p * y + q * z) ≡ x + ((p + c) * y + (q + m) * z)
    both p q = omega arith

    sums : (p q : ℕ) → p + c ≡ n → q + m ≡ n → c * y + m * z + (x + p * y + q * z) ≡ x + n * (y + z)
    sums p q e f = both p q ∙ ap₂ (λ (u v : ℕ). x + (u * y + v * z)) e f ∙ last
      where
        last : x + (n * y + n * z) ≡ x + n * (y + z)
        last = omega arith

module _ (n a d b e s i c t m : ℕ) (w₀ w w' : List ℕ) (pos : 0 < n) (one : 1 ≤ d) (within : d + s + 1 ≤ e)
    (apart : Apart a (d + 1) b (e + 1))
    (unit : (i * get_or w₀ (a + d) 0) % n ≡ 1 % n) (ic : c ≡ (i * get_or w (b + (d + s + 1)) 0) % n)
    (it : t ≡ (get_or w (b + (d + s)) 0 + (n - c) * get_or w (a + (d - 1)) 0) % n) (im : m ≡ (i * t) % n)
    (mv : Paired n (n - c) (n - m) a (b + s) d w w') (dv : Dividing n a d b e (s + 2) w₀ w) where
  F : ℕ → ℕ
  F = coef (piece w₀ a (d + 1))

  c_small : c < n
  c_small = subst (λ (x : ℕ). x < n) (sym ic) (mod-lt _ pos)

  m_small : m < n
  m_small = subst (λ (x : ℕ). x < n) (sym im) (mod-lt _ pos)

  read : (j : ℕ) → j < d + 1 → get_or w (a + j) 0 ≡ F j
  unfolding F
  read j l = apart_at apart dv.around j l ∙ sym (piece_at w₀ a (d + 1) j l)

  lead : get_or w₀ (a + d) 0 ≡ F d
  unfolding F
  lead = sym (piece_at w₀ a (d + 1) d (omega arith))

  over : (j : ℕ) → d < j → F j ≡ 0
  unfolding F
  over j l = piece_over w₀ a (d + 1) j (omega arith)

  -- i times a word, times the leading word, is the word
  undo : (u x : ℕ) → u ≡ (i * x) % n → Cong n (u * F d) x
  undo u x h =
      c_trans (c_mul (c_trans (c_eq h) (c_mod (i * x))) (c_refl {a = F d}))
      (c_trans (c_eq {b = x * (i * F d)} (simp ring))
      (c_trans (c_mul (c_refl {a = x}) (record { same = ap (λ (y : ℕ). (i * y) % n) (sym lead) ∙ unit })) (c_eq (mul-one x))))

  Goal : ℕ → Type 0
  Goal k = Cong n (c * risen (suc s) F k + m * risen s F k + coef (piece w' b (d + s)) k) (coef (piece w b (d + (s + 2))) k)

  -- by the three terms on the left and that on the right
  by : (k x y z v : ℕ) → risen (suc s) F k ≡ x → risen s F k ≡ y → coef (piece w' b (d + s)) k ≡ z → coef (piece w b (d + (s + 2))) k ≡ v
      → Cong n (c * x + m * y + z) v → Goal k
  unfolding Goal
  by k x y z v hx hy hz hv h = c_trans (c_eq (ap₂ (λ (x y : ℕ). c * x + m * y + coef (piece w' b (d + s)) k) hx hy ∙ ap
      (λ (z : ℕ). c * x + m * y + z) hz)) (c_trans h (c_eq (sym hv)))

  middle : (k j : ℕ) → k ≡ s + j → j < d → Goal k
  middle k j q l =
      by k (behind F j) (F j) ((get_or w (b + k) 0 + (n - c) * behind F j + (n - m) * F j) % n) (get_or w (b + k) 0)
      (first j q l) (risen_at s F k j q)
      (piece_at w' b (d + s) k (omega arith) ∙ ap (λ (x : ℕ). get_or w' x 0) (let z : b + k ≡ b + s + j = omega arith in z) ∙ mv.mid j l
      ∙ ap₂ (λ (x y : ℕ). (x + (n - c) * behind (λ (k : ℕ). get_or w (a + k) 0) j + (n - m) * y) % n)
      (ap (λ (x : ℕ). get_or w x 0) (let z : b + s + j ≡ b + k = omega arith in z)) (read j (omega arith))
      ∙ ap (λ (x : ℕ). (get_or w (b + k) 0 + (n - c) * x + (n - m) * F j) % n) (seen j l))
      (piece_at w b (d + (s + 2)) k (omega arith))
      (back_two n (get_or w (b + k) 0) c (behind F j) m (F j) c_small m_small)
    where
      first : (j : ℕ) → k ≡ s + j → j < d → risen (suc s) F k ≡ behind F j
      first zero q l = risen_low (suc s) F k (omega arith)
      first (suc j) q l = risen_at (suc s) F k j (omega arith)

      seen : (j : ℕ) → j < d → behind (λ (k : ℕ). get_or w (a + k) 0) j ≡ behind F j
      seen zero l = refl
      seen (suc j) l = read j (omega arith)

  -- the place of the second quotient word
  second : (k : ℕ) → k ≡ d + s → Goal k
  second k q =
      by k (F (d - 1)) (F d) 0 (get_or w (b + (d + s)) 0)
      (risen_at (suc s) F k (d - 1) (omega arith)) (risen_at s F k d (omega arith)) (piece_over w' b (d + s) k (omega arith))
      (piece_at w b (d + (s + 2)) k (omega arith) ∙ ap (λ (x : ℕ). get_or w (b + x) 0) q)
      (c_trans (c_eq (add-zero _))
      (c_trans (c_add (c_refl {a = c * F (d - 1)}) (undo m t im))
      (c_trans (c_eq (ap (λ (x : ℕ). c * F (d - 1) + x) (it ∙ ap (λ (x : ℕ). (get_or w (b + (d + s)) 0 + (n - c) * x) % n)
      (read (d - 1) (omega arith)))))
      (c_trans (c_eq (none _ _ ∙ ap (λ (x : ℕ). c * F (d - 1) + m * 0 + x % n) (more _)))
      (back_two n (get_or w (b + (d + s)) 0) c (F (d - 1)) m 0 c_small m_small)))))
    where
      none : (x y : ℕ) → x + y ≡ x + m * 0 + y
      none x y = omega arith

      more : (x : ℕ) → x ≡ x + (n - m) * 0
      more x = sym (ap (λ (y : ℕ). x + y) (mul-zero (n - m)) ∙ add-zero x)

  -- the place of the first
  head : (k : ℕ) → k ≡ d + s + 1 → Goal k
  head k q =
      by k (F d) 0 0 (get_or w (b + (d + s + 1)) 0)
      (risen_at (suc s) F k d (omega arith)) (risen_at s F k (d + 1) (omega arith) ∙ over (d + 1) (omega arith))
      (piece_over w' b (d + s) k (omega arith))
      (piece_at w b (d + (s + 2)) k (omega arith) ∙ ap (λ (x : ℕ). get_or w (b + x) 0) q)
      (c_trans (c_eq (zeros (c * F d))) (undo c (get_or w (b + (d + s + 1)) 0) ic))
    where
      zeros : (x : ℕ) → x + m * 0 + 0 ≡ x
      zeros x = omega arith

  nothing : (k v : ℕ) → risen (suc s) F k ≡ 0 → risen s F k ≡ 0 → coef (piece w' b (d + s)) k ≡ v → coef (piece w b (d + (s + 2))) k ≡ v
      → Goal k
  nothing k v hx hy hz hv = by k 0 0 v v hx hy hz hv (c_eq (zeros v))
    where
      zeros : (v : ℕ) → c * 0 + m * 0 + v ≡ v
      zeros v = omega arith

  round : (k : ℕ) → Goal k
  round k =
      ⊎_elim
      (λ l. nothing k (get_or w (b + k) 0) (risen_low (suc s) F k (omega arith)) (risen_low s F k l)
      (piece_at w' b (d + s) k (omega arith) ∙ mv.low (b + k) (omega arith)) (piece_at w b (d + (s + 2)) k (omega arith)))
      (λ l. ⊎_elim
      (λ h. middle k (k - s) (omega arith) (omega arith))
      (λ h. ⊎_elim (λ q. second k (sym q))
      (λ h. ⊎_elim (λ q. head k (q' q))
      (λ q. nothing k 0 (risen_at (suc s) F k (k - suc s) (omega arith) ∙ over (k - suc s) (omega arith))
      (risen_at s F k (k - s) (omega arith) ∙ over (k - s) (omega arith)) (piece_over w' b (d + s) k (omega arith))
      (piece_over w b (d + (s + 2)) k (omega arith)))
      (eq-or-lt_of_le h))
      (eq-or-lt_of_le h))
      (lt_or_le k (d + s)))
      (lt_or_le k s)
    where
      q' : suc (d + s) ≡ k → k ≡ d + s + 1
      q' h = omega arith

  pub double_step : Dividing n a d b e s w₀ w'
  unfolding F Goal
  double_step = record {
    around = record {
      same = mv.same ∙ dv.around.same;
      low = λ k h. mv.low k (omega arith) ∙ dv.around.low k h;
      high = λ k h. mv.high k (omega arith) ∙ dv.around.high k h;
    };
    below = record {
      at = λ k h. ⊎_elim
          (λ l. subst (λ (x : ℕ). x < n) (sym (mv.low (b + k) (omega arith))) (dv.below.at k h))
          (λ l. ⊎_elim
          (λ p. let j : b + k ≡ b + s + (k - s) = omega arith in
          subst (λ (x : ℕ). x < n) (sym (ap (λ (x : ℕ). get_or w' x 0) j ∙ mv.mid (k - s) (omega arith))) (mod-lt _ pos))
          (λ p. subst (λ (x : ℕ). x < n) (sym (mv.high (b + k) (omega arith))) (dv.below.at k h))
          (lt_or_le k (s + d)))
          (lt_or_le k s);
    };
    q = λ j. dv.q j + (spot (suc s) c j + spot s m j);
    top = λ j l. ap₂ (λ (x y : ℕ). x + y) (dv.top j l) (ap₂ (λ (x y : ℕ). x + y) (spot_off (suc s) c j (omega arith))
        (spot_off s m j (omega arith)));
    at = λ k.
        c_trans (c_eq (ap (λ (x : ℕ). x + coef (piece w' b (d + s)) k)
        (convolve_add dv.q (λ (j : ℕ). spot (suc s) c j + spot s m j) F k
        ∙ ap (λ (x : ℕ). convolve dv.q F k + x) (convolve_add (spot (suc s) c) (spot s m) F k ∙ ap₂ (λ (x y : ℕ). x + y)
        (convolve_spot (suc s) c F k) (convolve_spot s m F k))) ∙ add_assoc _ _ _))
        (c_trans (c_add c_refl (round k)) (dv.at k));
  }

  -- the two quotient words that were found
  pub double_quotient : (j : ℕ) → double_step.q j ≡ dv.q j + (spot (suc s) c j + spot s m j)
  unfolding double_step F Goal
  double_quotient j = refl
