-- What the word loops of a step backwards make of two windows of one list, whatever the list is of: words, or what words stand for.
--
--   first_kept, first_nil, first_mixed      over a division's end: the window at u is kept, the one at v ends and is a mixture
--   second_kept, second_high, second_added  over an elimination before it: the window at v is kept, the one at u gains the other, risen
--
-- Letters: h is the length of a window, beta stands at u, gamma at v; d and e are the degrees of f and g before the step.
use mathlib.Core.Path.{◌≡◌, refl, sym, ap, ap₂, ◌∙◌}
use mathlib.Core.List.{List}
use mathlib.Core.Logic.{⊎_elim, ◌⊎◌}
use Prim.Native.Nat.{ℕ, zero, suc, ◌+◌, ◌-◌, ◌*◌, ◌%◌, ◌≤◌, ◌<◌}
use native.Mathlib.Omega.{arith}
use native.Mathlib.Nat.{mod-mod, add_assoc}
use lib.ListN.{length, get_or}
use Rattle.definitions.specs.Polynomials.{coef, convolve}
use Rattle.law_numbers.specs.Congruence.{Cong, c_refl, c_sym, c_trans, c_eq, c_add, c_mul}
use Rattle.windows.specs.Window.{piece, Written, Around, Apart, behind}
use Rattle.windows.proofs.Leaf.{lt_or_le, piece_at, piece_over, piece_same, apart_at}
use Rattle.windows.proofs.Pairs.{behind_same}
use Rattle.window_division.proofs.DivisionRounds.{spot, risen, risen_at, risen_low, convolve_spot}
use Rattle.window_combining.specs.Combined.{combination}
use Rattle.euclid_steps.specs.Steps.{Mixture, Added, two, convolve_two}

behind_nil : (F : ℕ → ℕ) (d k : ℕ) → ((j : ℕ) → d ≤ j → F j ≡ 0) → d + 1 ≤ k → behind F k ≡ 0
behind_nil F d zero h l = refl
behind_nil F d (suc k) h l = h k (omega arith)

-- ---- over a division's end

module _ (n h d e c q k u v : ℕ) (w w' : List ℕ) (fits : u + h ≤ length w) (apart : Apart u h v h) (high : e < h)
    (near : (e ≡ d + 1) ⊎ ((e ≡ d) × (Cong n c 0))) (β_nil : (j : ℕ) → d ≤ j → coef (piece w u h) j ≡ 0)
    (γ_nil : (j : ℕ) → d ≤ j → coef (piece w v h) j ≡ 0) (wr : Written (combination n k c q u v w) v e w w') where
  around : Around v h w w'
  around = record { same = wr.same; low = wr.low; high = λ j l. wr.high j (omega arith) }

  pub first_kept : piece w' u h ≡ piece w u h
  first_kept = piece_same w w' u h fits wr.same (λ j l. apart_at {w = w} {w' = w'} apart around j l)

  least : d ≤ e
  least = ⊎_elim (λ x. omega arith) (λ x. omega (arith, x.0)) near

  pub first_nil : (j : ℕ) → e ≤ j → coef (piece w' v h) j ≡ 0
  first_nil j l =
      ⊎_elim (λ g. piece_at w' v h j g ∙ wr.high (v + j) (omega arith) ∙ sym (piece_at w v h j g) ∙ γ_nil j (omega (arith, least)))
      (λ g. piece_over w' v h j g) (lt_or_le j h)

  carried : (j : ℕ) → e ≤ j → Cong n (c * behind (coef (piece w u h)) j) 0
  carried j l = ⊎_elim (λ x. c_eq (ap (λ (z : ℕ). c * z) (behind_nil (coef (piece w u h)) d j β_nil (omega arith)) ∙ none c))
      (λ x. c_trans (c_mul x.1 c_refl) (c_eq (nothing (behind (coef (piece w u h)) j)))) near
    where
      none : (x : ℕ) → x * 0 ≡ 0
      none x = omega arith

      nothing : (x : ℕ) → 0 * x ≡ 0
      nothing x = omega arith

  word : (j : ℕ) → j < e → coef (piece w' v h) j % n
      ≡ (k * coef (piece w v h) j + (c * behind (coef (piece w u h)) j + q * coef (piece w u h) j)) % n
  unfolding combination
  word j l =
      ap (λ (x : ℕ). x % n) (piece_at w' v h j (omega arith) ∙ wr.mid j l) ∙ mod-mod _ n
      ∙ ap (λ (x : ℕ). x % n) (add_assoc (k * get_or w (v + j) 0) (c * behind (λ (i : ℕ). get_or w (u + i) 0) j) (q * get_or w (u + j) 0)
      ∙ sym (ap₂ (λ (x y : ℕ). k * x + y) (piece_at w v h j (omega arith))
      (ap₂ (λ (x y : ℕ). c * x + q * y)
      (behind_same (coef (piece w u h)) (λ (i : ℕ). get_or w (u + i) 0) j (λ i g. piece_at w u h i (omega arith)))
      (piece_at w u h j (omega arith)))))

  idle : (j : ℕ) → e ≤ j → Cong n (coef (piece w' v h) j)
      (k * coef (piece w v h) j + (c * behind (coef (piece w u h)) j + q * coef (piece w u h) j))
  idle j l =
      c_trans (c_eq (first_nil j l ∙ zeros k q)) (c_add (c_eq (ap (λ (x : ℕ). k * x) (sym (γ_nil j (omega (arith, least))))))
      (c_add (c_sym (carried j l)) (c_eq (ap (λ (x : ℕ). q * x) (sym (β_nil j (omega (arith, least))))))))
    where
      zeros : (k q : ℕ) → 0 ≡ k * 0 + (0 + q * 0)
      zeros k q = omega arith

  pub first_mixed : Mixture n k (two q c) (coef (piece w u h)) (coef (piece w v h)) (coef (piece w' v h))
  first_mixed = record {
    at = λ j. ⊎_elim (λ l. word j l) (λ l. (idle j l).same) (lt_or_le j e)
        ∙ ap (λ (x : ℕ). (k * coef (piece w v h) j + x) % n) (sym (convolve_two q c (coef (piece w u h)) j));
  }

-- ---- over an elimination

module _ (n h d e z K q u v : ℕ) (w w' : List ℕ) (fits : v + h ≤ length w) (apart : Apart u h v h) (near : d ≤ e) (high : e < h)
    (γ_nil : (j : ℕ) → d ≤ j → coef (piece w v h) j ≡ 0) (factor : Cong n z (K * q))
    (wr : Written (combination n 1 0 z v (u + (e - d)) w) (u + (e - d)) d w w') where
  flipped : Apart v h u h
  flipped = record { ok = λ i j p q g. apart.ok j i q p (sym g) }

  raise_around : Around u h w w'
  raise_around = record { same = wr.same; low = λ j l. wr.low j (omega arith); high = λ j l. wr.high j (omega arith) }

  pub second_kept : piece w' v h ≡ piece w v h
  second_kept = piece_same w w' v h fits wr.same (λ j l. apart_at {w = w} {w' = w'} flipped raise_around j l)

  low_kept : (j : ℕ) → j < e - d → coef (piece w' u h) j ≡ coef (piece w u h) j
  low_kept j l = piece_at w' u h j (omega arith) ∙ wr.low (u + j) (omega arith) ∙ sym (piece_at w u h j (omega arith))

  pub second_high : (j : ℕ) → e ≤ j → coef (piece w' u h) j ≡ coef (piece w u h) j
  second_high j l = ⊎_elim (λ g. piece_at w' u h j g ∙ wr.high (u + j) (omega arith) ∙ sym (piece_at w u h j g))
      (λ g. piece_over w' u h j g ∙ sym (piece_over w u h j g)) (lt_or_le j h)

  mid_word : (j i : ℕ) → j ≡ e - d + i → i < d → get_or w' (u + j) 0 ≡ (get_or w (u + j) 0 + z * get_or w (v + i) 0) % n
  unfolding combination
  mid_word j i g l =
      ap (λ (x : ℕ). get_or w' x 0) place ∙ wr.mid i l
      ∙ ap (λ (x : ℕ). x % n)
      (ap (λ (x : ℕ). 1 * get_or w x 0 + 0 * behind (λ (k : ℕ). get_or w (v + k) 0) i + z * get_or w (v + i) 0) (sym place)
      ∙ simple (get_or w (u + j) 0) (behind (λ (k : ℕ). get_or w (v + k) 0) i) (z * get_or w (v + i) 0))
    where
      place : u + j ≡ u + (e - d) + i
      place = omega arith

      simple : (x y z : ℕ) → 1 * x + 0 * y + z ≡ x + z
      simple x y z = omega arith

  raised_word : (j : ℕ) → coef (piece w' u h) j % n ≡ (coef (piece w u h) j + z * risen (e - d) (coef (piece w v h)) j) % n
  raised_word j = ⊎_elim (λ l. still j (low_kept j l) (risen_low (e - d) (coef (piece w v h)) j l))
      (λ l. ⊎_elim (λ g. inside j (j - (e - d)) (omega arith) (omega arith) g)
      (λ g. still j (second_high j g)
      (risen_at (e - d) (coef (piece w v h)) j (j - (e - d)) (omega arith) ∙ γ_nil (j - (e - d)) (omega arith))) (lt_or_le j e))
      (lt_or_le j (e - d))
    where
      still : (j : ℕ) → coef (piece w' u h) j ≡ coef (piece w u h) j → risen (e - d) (coef (piece w v h)) j ≡ 0
          → coef (piece w' u h) j % n ≡ (coef (piece w u h) j + z * risen (e - d) (coef (piece w v h)) j) % n
      still j p q = ap (λ (x : ℕ). x % n) (p ∙ sym (ap (λ (x : ℕ). coef (piece w u h) j + z * x) q ∙ nothing (coef (piece w u h) j) z))
        where
          nothing : (x z : ℕ) → x + z * 0 ≡ x
          nothing x z = omega arith

      inside : (j i : ℕ) → j ≡ e - d + i → i < d → j < e
          → coef (piece w' u h) j % n ≡ (coef (piece w u h) j + z * risen (e - d) (coef (piece w v h)) j) % n
      inside j i g l m =
          ap (λ (x : ℕ). x % n) (piece_at w' u h j (omega arith) ∙ mid_word j i g l) ∙ mod-mod _ n
          ∙ ap (λ (x : ℕ). x % n) (sym (ap₂ (λ (x y : ℕ). x + z * y) (piece_at w u h j (omega arith))
          (risen_at (e - d) (coef (piece w v h)) j i g ∙ piece_at w v h i (omega arith))))

  pub second_added : Added n K (spot (e - d) q) (coef (piece w v h)) (coef (piece w u h)) (coef (piece w' u h))
  second_added = record { at = λ j. raised_word j ∙ scaled j }
    where
      elimination : (x : ℕ) → K * q * x ≡ K * (q * x)
      elimination x = omega arith

      scaled : (j : ℕ) → (coef (piece w u h) j + z * risen (e - d) (coef (piece w v h)) j) % n
          ≡ (coef (piece w u h) j + K * convolve (spot (e - d) q) (coef (piece w v h)) j) % n
      scaled j =
          (c_add (c_refl {a = coef (piece w u h) j}) (c_trans (c_mul factor (c_refl {a = risen (e - d) (coef (piece w v h)) j}))
          (c_eq (elimination (risen (e - d) (coef (piece w v h)) j)
          ∙ ap (λ (x : ℕ). K * x) (sym (convolve_spot (e - d) q (coef (piece w v h)) j)))))
          ).same
