-- Division in a window by a polynomial whose leading word is a unit: what a round keeps. Assumes nothing.
use mathlib.Core.Path.{◌≡◌, refl, sym, ap, ap₂, subst, ◌∙◌}
use mathlib.Core.List.{List}
use mathlib.Core.Logic.{⊎_elim}
use Prim.Native.Nat.{ℕ, zero, suc, ◌+◌, ◌-◌, ◌*◌, ◌%◌, ◌≤◌, ◌<◌}
use native.Mathlib.Omega.{arith}
use native.Mathlib.Nat.{mod-lt, mul-mod_right, zero-mod, add-zero, zero-add, add_assoc, zero-mul, mul-zero, mul-one, add-mul}
use native.Mathlib.Nat.{eq-or-lt_of_le}
use lib.ListN.{get_or}
use Rattle.law_numbers.specs.Congruence.{Cong, c_refl, c_trans, c_eq, c_add, c_mul, c_mod, ring}
use Rattle.definitions.specs.Polynomials.{coef, convolve}
use Rattle.law_polynomials.specs.Words.{convolve_zero, convolve_suc}
use Rattle.windows.specs.Window.{piece, Moved, addMul, Below, Around, Apart}
use Rattle.windows.proofs.Leaf.{lt_or_le, piece_at, piece_over, apart_at}
use Rattle.window_division.specs.Remainders.{Remainder}

-- ---- products with 0, with a sum, with one term

pub convolve_none : (F : ℕ → ℕ) (k : ℕ) → convolve (λ (_ : ℕ). 0) F k ≡ 0
convolve_none F zero = convolve_zero (λ (_ : ℕ). 0) F ∙ zero-mul (F 0)
convolve_none F (suc k) = convolve_suc (λ (_ : ℕ). 0) F k ∙ ap₂ (λ (x y : ℕ). x + y) (zero-mul (F (suc k))) (convolve_none F k)

pub convolve_add : (p q F : ℕ → ℕ) (k : ℕ) → convolve (λ (i : ℕ). p i + q i) F k ≡ convolve p F k + convolve q F k
convolve_add p q F zero = convolve_zero (λ (i : ℕ). p i + q i) F ∙ add-mul (p 0) (q 0) (F 0) ∙ sym
    (ap₂ (λ (x y : ℕ). x + y) (convolve_zero p F) (convolve_zero q F))
convolve_add p q F (suc k) =
    convolve_suc (λ (i : ℕ). p i + q i) F k ∙ ap₂ (λ (x y : ℕ). x + y) (add-mul (p 0) (q 0) (F (suc k)))
    (convolve_add (λ i. p (suc i)) (λ i. q (suc i)) F k)
    ∙ four (p 0 * F (suc k)) (q 0 * F (suc k)) (convolve (λ i. p (suc i)) F k) (convolve (λ i. q (suc i)) F k)
    ∙ sym (ap₂ (λ (x y : ℕ). x + y) (convolve_suc p F k) (convolve_suc q F k))
  where
    four : (a b c d : ℕ) → a + b + (c + d) ≡ a + c + (b + d)
    four a b c d = omega arith

-- m at the place s alone
pub spot : ℕ → ℕ → ℕ → ℕ
spot zero m zero = m
spot zero m (suc i) = 0
spot (suc s) m zero = 0
spot (suc s) m (suc i) = spot s m i

pub spot_off : (s m i : ℕ) → s < i → spot s m i ≡ 0
unfolding spot
spot_off zero m zero l = absurd (omega arith)
spot_off zero m (suc i) l = refl
spot_off (suc s) m zero l = refl
spot_off (suc s) m (suc i) l = spot_off s m i (omega arith)

pub spot_low : (s m i : ℕ) → i < s → spot s m i ≡ 0
unfolding spot
spot_low zero m i l = absurd (omega arith)
spot_low (suc s) m zero l = refl
spot_low (suc s) m (suc i) l = spot_low s m i (omega arith)

pub spot_at : (s m i : ℕ) → i ≡ s → spot s m i ≡ m
unfolding spot
spot_at zero m zero e = refl
spot_at zero m (suc i) e = absurd (omega arith)
spot_at (suc s) m zero e = absurd (omega arith)
spot_at (suc s) m (suc i) e = spot_at s m i (omega arith)

-- F, s places higher
pub risen : ℕ → (ℕ → ℕ) → ℕ → ℕ
risen zero F k = F k
risen (suc s) F zero = 0
risen (suc s) F (suc k) = risen s F k

pub risen_at : (s : ℕ) (F : ℕ → ℕ) (k j : ℕ) → k ≡ s + j → risen s F k ≡ F j
unfolding risen
risen_at zero F k j e = ap F (e ∙ zero-add j)
risen_at (suc s) F zero j e = absurd (omega arith)
risen_at (suc s) F (suc k) j e = risen_at s F k j (omega arith)

pub risen_low : (s : ℕ) (F : ℕ → ℕ) (k : ℕ) → k < s → risen s F k ≡ 0
unfolding risen
risen_low zero F k l = absurd (omega arith)
risen_low (suc s) F zero l = refl
risen_low (suc s) F (suc k) l = risen_low s F k (omega arith)

pub convolve_spot : (s m : ℕ) (F : ℕ → ℕ) (k : ℕ) → convolve (spot s m) F k ≡ m * risen s F k
unfolding spot risen
convolve_spot zero m F zero = convolve_zero (spot 0 m) F
convolve_spot zero m F (suc k) = convolve_suc (spot 0 m) F k ∙ ap (λ (x : ℕ). m * F (suc k) + x) (convolve_none F k) ∙ add-zero
    (m * F (suc k))
convolve_spot (suc s) m F zero = convolve_zero (spot (suc s) m) F ∙ zero-mul (F 0) ∙ sym (mul-zero m)
convolve_spot (suc s) m F (suc k) =
    convolve_suc (spot (suc s) m) F k ∙ ap₂ (λ (x y : ℕ). x + y) (zero-mul (F (suc k))) (convolve_spot s m F k) ∙ zero-add (m * risen s F k)

-- x + (n - c) y, with c y more, is x
pub back : (n x c y : ℕ) → c < n → Cong n (c * y + (x + (n - c) * y) % n) x
back n x c y h =
    c_trans (c_add c_refl (c_mod (x + (n - c) * y)))
    (c_trans (c_eq (sums (n - c) (omega arith)))
    (c_trans (c_add c_refl (record { same = mul-mod_right n y ∙ sym (zero-mod n) })) (c_eq (add-zero x))))
  where
    sums : (m : ℕ) → m + c ≡ n → c * y + (x + m * y) ≡ x + n * y
    sums m e = rw (← e) (omega arith)

-- ---- what the loop keeps: s quotient words are still to come

pub record Dividing (n a d b e s : ℕ) (w₀ w : List ℕ) : Type 0 where
  pub around : Around b (e + 1) w₀ w
  pub below : Below n b (e + 1) w
  pub q : ℕ → ℕ
  pub top : (i : ℕ) → e < d + i → q i ≡ 0
  pub at : (k : ℕ) → Cong n (convolve q (coef (piece w₀ a (d + 1))) k + coef (piece w b (d + s)) k) (coef (piece w₀ b (e + 1)) k)

pub dividing_start : (n a d b e s : ℕ) (w : List ℕ) → d + s ≡ e + 1 → Below n b (e + 1) w → Dividing n a d b e s w w
dividing_start n a d b e s w h p = record {
  around = record { same = refl; low = λ k l. refl; high = λ k l. refl };
  below = p;
  q = λ _. 0;
  top = λ i l. refl;
  at = λ k. c_eq (ap₂ (λ (x y : ℕ). x + coef (piece w b y) k) (convolve_none (coef (piece w a (d + 1))) k) h ∙ zero-add _);
}

pub start_quotient : (n a d b e s : ℕ) (w : List ℕ) (h : d + s ≡ e + 1) (p : Below n b (e + 1) w) (j : ℕ)
    → (dividing_start n a d b e s w h p).q j ≡ 0
unfolding dividing_start
start_quotient n a d b e s w h p j = refl

module _ (n a d b e s i c : ℕ) (w₀ w w' : List ℕ) (pos : 0 < n) (within : d + s ≤ e) (apart : Apart a (d + 1) b (e + 1))
    (unit : (i * get_or w₀ (a + d) 0) % n ≡ 1 % n) (is : c ≡ (i * get_or w (b + (d + s)) 0) % n)
    (mv : Moved (addMul n (n - c)) a (b + s) d w w') (dv : Dividing n a d b e (s + 1) w₀ w) where
  F : ℕ → ℕ
  F = coef (piece w₀ a (d + 1))

  small : c < n
  small = subst (λ (x : ℕ). x < n) (sym is) (mod-lt _ pos)

  -- the word j of the divisor, as the leaf reads it
  read : (j : ℕ) → j < d + 1 → get_or w (a + j) 0 ≡ F j
  unfolding F
  read j l = apart_at apart dv.around j l ∙ sym (piece_at w₀ a (d + 1) j l)

  round : (k : ℕ) → Cong n (c * risen s F k + coef (piece w' b (d + s)) k) (coef (piece w b (d + (s + 1))) k)
  unfolding F
  round k =
      ⊎_elim
      (λ l. c_eq (ap₂ (λ (x y : ℕ). c * x + y) (risen_low s F k l) (piece_at w' b (d + s) k (omega arith) ∙ mv.low (b + k) (omega arith)
      ∙ sym (piece_at w b (d + (s + 1)) k (omega arith)))
      ∙ ap (λ (x : ℕ). x + coef (piece w b (d + (s + 1))) k) (mul-zero c) ∙ zero-add _))
      (λ l. ⊎_elim
      (λ h. middle (k - s) (omega arith) (omega arith))
      (λ h. ⊎_elim (λ q. head (sym q)) (λ q. c_eq (ap₂ (λ (x y : ℕ). c * x + y)
      (risen_at s F k (k - s) (omega arith) ∙ piece_over w₀ a (d + 1) (k - s) (omega arith)) (piece_over w' b (d + s) k (omega arith))
      ∙ ap (λ (x : ℕ). x + 0) (mul-zero c) ∙ sym (piece_over w b (d + (s + 1)) k (omega arith)))) (eq-or-lt_of_le h))
      (lt_or_le k (d + s)))
      (lt_or_le k s)
    where
      middle : (j : ℕ) → k ≡ s + j → j < d → Cong n (c * risen s F k + coef (piece w' b (d + s)) k) (coef (piece w b (d + (s + 1))) k)
      middle j q l =
          c_trans (c_eq (ap₂ (λ (x y : ℕ). c * x + y) (risen_at s F k j q)
          (piece_at w' b (d + s) k (omega arith) ∙ ap (λ (x : ℕ). get_or w' x 0) (let z : b + k ≡ b + s + j = omega arith in z) ∙ mv.mid j l
          ∙ ap₂ (λ (x y : ℕ). (x + (n - c) * y) % n) (ap (λ (x : ℕ). get_or w x 0) (let z : b + s + j ≡ b + k = omega arith in z))
          (read j (omega arith)))))
          (c_trans (back n (get_or w (b + k) 0) c (F j) small) (c_eq (sym (piece_at w b (d + (s + 1)) k (omega arith)))))

      head : k ≡ d + s → Cong n (c * risen s F k + coef (piece w' b (d + s)) k) (coef (piece w b (d + (s + 1))) k)
      head q =
          let x : ℕ = get_or w (b + (d + s)) 0 in
          c_trans (c_eq (ap₂ (λ (x y : ℕ). c * x + y) (risen_at s F k d (omega arith) ∙ piece_at w₀ a (d + 1) d (omega arith))
          (piece_over w' b (d + s) k (omega arith)) ∙ add-zero _))
          (c_trans (c_mul (c_trans (c_eq is) (c_mod (i * x))) (c_refl {a = get_or w₀ (a + d) 0}))
          (c_trans (c_eq {b = x * (i * get_or w₀ (a + d) 0)} (simp ring))
          (c_trans (c_mul (c_refl {a = x}) (record { same = unit }))
          (c_eq (mul-one x ∙ ap (λ (y : ℕ). get_or w (b + y) 0) (sym q) ∙ sym (piece_at w b (d + (s + 1)) k (omega arith)))))))

  pub dividing_step : Dividing n a d b e s w₀ w'
  unfolding F
  dividing_step = record {
    around = record {
      same = mv.same ∙ dv.around.same;
      low = λ k h. mv.low k (omega arith) ∙ dv.around.low k h;
      high = λ k h. mv.high k (omega arith) ∙ dv.around.high k h;
    };
    below = record {
      at = λ k h. ⊎_elim
          (λ l. subst (λ (x : ℕ). x < n) (sym (mv.low (b + k) (omega arith))) (dv.below.at k h))
          (λ l. ⊎_elim
          (λ p. let j : b + k ≡ b + s + (k - s) = omega arith in
          subst (λ (x : ℕ). x < n) (sym (ap (λ (x : ℕ). get_or w' x 0) j ∙ mv.mid (k - s) (omega arith))) (mod-lt _ pos))
          (λ p. subst (λ (x : ℕ). x < n) (sym (mv.high (b + k) (omega arith))) (dv.below.at k h))
          (lt_or_le k (s + d)))
          (lt_or_le k s);
    };
    q = λ j. dv.q j + spot s c j;
    top = λ j l. ap₂ (λ (x y : ℕ). x + y) (dv.top j l) (spot_off s c j (omega arith));
    at = λ k.
        c_trans (c_eq (ap (λ (x : ℕ). x + coef (piece w' b (d + s)) k)
        (convolve_add dv.q (spot s c) (coef (piece w₀ a (d + 1))) k ∙ ap
        (λ (x : ℕ). convolve dv.q (coef (piece w₀ a (d + 1))) k + x) (convolve_spot s c (coef (piece w₀ a (d + 1))) k))
        ∙ add_assoc _ _ _))
        (c_trans (c_add c_refl (round k)) (dv.at k));
  }

  -- the quotient word that was found
  pub dividing_quotient : (j : ℕ) → dividing_step.q j ≡ dv.q j + spot s c j
  unfolding dividing_step F
  dividing_quotient j = refl

pub dividing_end : (n a d b e s : ℕ) (w₀ w : List ℕ) → s ≡ 0 → Dividing n a d b e s w₀ w → Remainder n a d b e w₀ w
dividing_end n a d b e s w₀ w z dv =
    let h : d + s ≡ d = omega arith in
    record { around = dv.around; below = dv.below; q = dv.q; top = dv.top; at = λ k. (rw h at (dv.at k)).same }
