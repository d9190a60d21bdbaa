-- The steps that the resultant's laws know, as mixtures.
--
--   pair_mixed             two eliminations at once
--   elimination_mixed      one elimination
--   last_mixed             one elimination, as a quotient of two words
use Rattle.std.specs.Prelude.{◌≡◌, refl, List, ℕ, suc, ◌+◌, ◌-◌, ◌*◌, ◌%◌, ◌≤◌, ◌<◌}
use Rattle.std.proofs.Common.{sym, ◌∙◌, ap, ap₂, ⊎_elim, add-zero, eq-or-lt_of_le, arith}
use Rattle.std.proofs.Math.Nat.{mul-mod_right, zero-mod}
use Rattle.definitions.specs.Polynomials.{coef}
use Rattle.law_numbers.specs.Congruence.{Cong, c_refl, c_sym, c_trans, c_eq, c_add, c_mul}
use Rattle.law_polynomials.specs.ReachedSteps.{coef_beyond}
use Rattle.windows.specs.Window.{behind}
use Rattle.windows.proofs.Leaf.{lt_or_le}
use Rattle.window_division.proofs.DivisionRounds.{spot, risen, risen_at, risen_low, convolve_spot}
use Rattle.resultant_signs.specs.EliminationLaws.{Eliminated, EliminatedTwice}
use Rattle.euclid_steps.specs.Steps.{Mixture, two, convolve_two}

-- n less, n times
gone : (n x y : ℕ) → Cong n (x + n * y) x
gone n x y = c_trans (c_add (c_refl {a = x}) (record { same = mul-mod_right n y ∙ sym (zero-mod n) })) (c_eq (add-zero x))

over_two : (n r p q b x v : ℕ) → p ≤ n → q ≤ n → Cong n (r + p * b + q * x) v → Cong n r (v + ((n - p) * b + (n - q) * x))
over_two n r p q b x v lp lq h =
    c_trans (c_sym (gone n r (b + x))) (c_trans (c_eq (sums (n - p) (n - q) (omega arith) (omega arith))) (c_add h c_refl))
  where
    sums : (p' q' : ℕ) → p' + p ≡ n → q' + q ≡ n → r + n * (b + x) ≡ r + p * b + q * x + (p' * b + q' * x)
    sums p' q' e f = omega (arith, ap (λ (z : ℕ). z * b) e, ap (λ (z : ℕ). z * x) f)

over_one : (n r c x v : ℕ) → c ≤ n → Cong n (c * x + r) v → Cong n r (v + (n - c) * x)
over_one n r c x v lc h =
    c_trans (c_sym (gone n r x)) (c_trans (c_eq (sums (n - c) (omega arith))) (c_add h c_refl))
  where
    sums : (c' : ℕ) → c' + c ≡ n → r + n * x ≡ c * x + r + c' * x
    sums c' e = omega (arith, ap (λ (z : ℕ). z * x) e)

behind_is : (F : ℕ → ℕ) (k j : ℕ) → k ≡ suc j → behind F k ≡ F j
behind_is F k j e = ap (behind F) e

module _ (n d y p q : ℕ) (f g r : List ℕ) (one : 1 ≤ d) (lp : p ≤ n) (lq : q ≤ n) (t : EliminatedTwice n d y p q f g r) where
  nil_r : (k : ℕ) → d ≤ k → coef r k ≡ 0
  nil_r k l = coef_beyond r k (omega (arith, t.third))

  nil_f : (k : ℕ) → d < k → coef f k ≡ 0
  nil_f k l = coef_beyond f k (omega (arith, t.first))

  nil_g : (k : ℕ) → d + 1 < k → coef g k ≡ 0
  nil_g k l = coef_beyond g k (omega (arith, t.second))

  -- the two words that go out
  next_out : Cong n (0 + p * coef f (d - 1) + q * coef f d) (y * coef g d)
  next_out =
      c_trans (c_add (c_add (c_refl {a = 0}) (c_mul t.upper (c_refl {a = coef f (d - 1)}))) (c_refl {a = q * coef f d}))
      (c_trans (c_eq {b = coef f d * (q + coef g (d + 1) * coef f (d - 1))} (elimination (coef f d) (coef g (d + 1)) (coef f (d - 1)) q))
      (c_trans (c_mul (c_refl {a = coef f d}) t.lower)
      (c_trans (c_eq (assoc (coef f d) (coef g d))) (c_mul (c_sym t.square) (c_refl {a = coef g d})))))
    where
      elimination : (l c x q : ℕ) → 0 + l * c * x + q * l ≡ l * (q + c * x)
      elimination l c x q = omega arith

      assoc : (l x : ℕ) → l * (l * x) ≡ l * l * x
      assoc l x = omega arith

  lead_out : Cong n (0 + p * coef f d + q * 0) (y * coef g (d + 1))
  lead_out =
      c_trans (c_add (c_add (c_refl {a = 0}) (c_mul t.upper (c_refl {a = coef f d}))) (c_refl {a = q * 0}))
      (c_trans (c_eq (elimination (coef f d) (coef g (d + 1)) q)) (c_mul (c_sym t.square) (c_refl {a = coef g (d + 1)})))
    where
      elimination : (l c q : ℕ) → 0 + l * c * l + q * 0 ≡ l * l * c
      elimination l c q = omega arith

  word : (k : ℕ) → Cong n (coef r k + p * behind (coef f) k + q * coef f k) (y * coef g k)
  word k = ⊎_elim (λ l. t.at k l) (λ l. ⊎_elim (λ e. at_d k (sym e))
      (λ l. ⊎_elim (λ e. at_next k (sym e)) (λ l. above k l) (eq-or-lt_of_le (more k l)))
      (eq-or-lt_of_le l)) (lt_or_le k d)
    where
      more : (k : ℕ) → d < k → d + 1 ≤ k
      more k l = omega arith

      made : (k x b z v : ℕ) → coef r k ≡ x → behind (coef f) k ≡ b → coef f k ≡ z → coef g k ≡ v → Cong n (x + p * b + q * z) (y * v)
          → Cong n (coef r k + p * behind (coef f) k + q * coef f k) (y * coef g k)
      made k x b z v hx hb hz hv h =
          c_trans (c_eq (ap₂ (λ (u v : ℕ). u + v) (ap₂ (λ (u v : ℕ). u + p * v) hx hb) (ap (λ (u : ℕ). q * u) hz)))
          (c_trans h (c_eq (ap (λ (u : ℕ). y * u) (sym hv))))

      at_d : (k : ℕ) → k ≡ d → Cong n (coef r k + p * behind (coef f) k + q * coef f k) (y * coef g k)
      at_d k e = made k 0 (coef f (d - 1)) (coef f d) (coef g d) (nil_r k (omega arith)) (behind_is (coef f) k (d - 1) (omega arith))
          (ap (coef f) e) (ap (coef g) e) next_out

      at_next : (k : ℕ) → k ≡ d + 1 → Cong n (coef r k + p * behind (coef f) k + q * coef f k) (y * coef g k)
      at_next k e = made k 0 (coef f d) 0 (coef g (d + 1)) (nil_r k (omega arith)) (behind_is (coef f) k d (omega arith))
          (nil_f k (omega arith)) (ap (coef g) e) lead_out

      above : (k : ℕ) → d + 1 < k → Cong n (coef r k + p * behind (coef f) k + q * coef f k) (y * coef g k)
      above k l = made k 0 0 0 0 (nil_r k (omega arith)) (behind_is (coef f) k (k - 1) (omega arith)
          ∙ nil_f (k - 1) (omega arith)) (nil_f k (omega arith)) (nil_g k (omega arith)) (c_eq (nothing p q y))
        where
          nothing : (p q y : ℕ) → 0 + p * 0 + q * 0 ≡ y * 0
          nothing p q y = omega arith

  pub pair_mixed : Mixture n y (two (n - q) (n - p)) (coef f) (coef g) (coef r)
  pair_mixed = record {
    at = λ k. (over_two n (coef r k) p q (behind (coef f) k) (coef f k) (y * coef g k) lp lq (word k)).same
        ∙ ap (λ (x : ℕ). (y * coef g k + x) % n) (sym (convolve_two (n - q) (n - p) (coef f) k));
  }

module _ (n d s : ℕ) (f g g' : List ℕ) (lc : coef g (d + s) ≤ n) (t : Eliminated n d s f g g') where
  elimination_word : (k : ℕ) → Cong n (coef g (d + s) * risen s (coef f) k + coef g' k) (coef f d * coef g k)
  elimination_word k = ⊎_elim (λ l. below k l) (λ l. inside k (k - s) (omega arith)) (lt_or_le k s)
    where
      made : (k x z v : ℕ) → risen s (coef f) k ≡ x → coef g' k ≡ z → coef g k ≡ v → Cong n (coef g (d + s) * x + z) (coef f d * v)
          → Cong n (coef g (d + s) * risen s (coef f) k + coef g' k) (coef f d * coef g k)
      made k x z v hx hz hv h =
          c_trans (c_eq (ap₂ (λ (u v : ℕ). coef g (d + s) * u + v) hx hz)) (c_trans h (c_eq (ap (λ (u : ℕ). coef f d * u) (sym hv))))

      below : (k : ℕ) → k < s → Cong n (coef g (d + s) * risen s (coef f) k + coef g' k) (coef f d * coef g k)
      below k l = made k 0 (coef g' k) (coef g k) (risen_low s (coef f) k l) refl refl
          (c_trans (c_eq (nothing (coef g (d + s)) (coef g' k))) (t.low k l))
        where
          nothing : (c x : ℕ) → c * 0 + x ≡ x
          nothing c x = omega arith

      inside : (k i : ℕ) → k ≡ s + i → Cong n (coef g (d + s) * risen s (coef f) k + coef g' k) (coef f d * coef g k)
      inside k i e =
          ⊎_elim (λ l. made k (coef f i) (coef g' (s + i)) (coef g (s + i)) (risen_at s (coef f) k i e) (ap (coef g') e) (ap (coef g) e)
          (t.mid i l))
          (λ l. ⊎_elim
          (λ u. made k (coef f d) 0 (coef g (d + s)) (risen_at s (coef f) k i e
          ∙ ap (coef f) (sym u)) (coef_beyond g' k (omega (arith, t.third))) (ap (coef g) (top u))
          (c_eq (elimination (coef g (d + s)) (coef f d))))
          (λ u. made k 0 0 0 (risen_at s (coef f) k i e
          ∙ coef_beyond f i (omega (arith, t.first))) (coef_beyond g' k (omega (arith, t.third)))
          (coef_beyond g k (omega (arith, t.second)))
          (c_eq (nothing (coef g (d + s)) (coef f d)))) (eq-or-lt_of_le l)) (lt_or_le i d)
        where
          top : d ≡ i → k ≡ d + s
          top u = omega arith

          elimination : (c l : ℕ) → c * l + 0 ≡ l * c
          elimination c l = omega arith

          nothing : (c l : ℕ) → c * 0 + 0 ≡ l * 0
          nothing c l = omega arith

  pub elimination_mixed : Mixture n (coef f d) (spot s (n - coef g (d + s))) (coef f) (coef g) (coef g')
  elimination_mixed = record {
    at = λ k. (over_one n (coef g' k) (coef g (d + s)) (risen s (coef f) k) (coef f d * coef g k) lc (elimination_word k)).same
        ∙ ap (λ (x : ℕ). (coef f d * coef g k + x) % n) (sym (convolve_spot s (n - coef g (d + s)) (coef f) k));
  }

pub last_mixed : {n l : ℕ} (m : ℕ) {F G H : ℕ → ℕ} → Mixture n l (spot 0 m) F G H → Mixture n l (two m 0) F G H
last_mixed {n} {l} m {F} {G} {H} h = record {
  at = λ k. h.at k ∙ ap (λ (x : ℕ). (l * G k + x) % n)
      (convolve_spot 0 m F k ∙ ap (λ (x : ℕ). m * x) (risen_at 0 F k k (omega arith))
      ∙ sym (convolve_two m 0 F k ∙ nothing (behind F k) (m * F k)));
}
  where
    nothing : (x y : ℕ) → 0 * x + y ≡ y
    nothing x y = omega arith
