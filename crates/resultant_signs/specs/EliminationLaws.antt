-- Division without inverses, for words modulo n: f of degree d with the leading word l, any word, and g of degree e at least d.
--
--   elimination_law    one elimination, l g = c x^s f + g': l^d Res(f, g) is l Res(f, g'), g' of one degree less
--   swap_law           degrees d and d - 1 exchanged: no sign
--   last_law           an elimination at e = d: l^d Res(f, g) is l Res(r, f)
--   pair_law           two eliminations at e = d + 1: x^d Res(f, g) is x Res(r, f), x = l^2
--   zero_law           a zero leading word: y Res(f', g), y the leading word of g with the sign (-1)^e
--   elimination_law_at, last_law_at, pair_law_at, zero_law_at, zero_law_is    the laws for any n from 1 on
--   dropped_words         a piece of a buffer and the piece without its last word, which is 0
--   Within n f g f' g'    every constant that f' and g' combine to, f and g combine to
--   elimination_within, last_within, pair_within, zero_within    so it is through every step, whatever the leading words are
--   itself                a constant is reached by itself and any other
--
-- Letters: l is the leading word of f, c that of g; g', r, h are what eliminations leave of g; C is a constant.
use Rattle.std.specs.Prelude.{◌≡◌, refl, List, [], ◌∷◌, length, get_or}
use Rattle.std.proofs.Math.Path.{sym, ap, ap₂, fun_ext}
use Rattle.std.proofs.Common.{subst, ◌∙◌, ⊎_elim}
use Prim.Native.Nat.{ℕ, zero, suc, pred, ◌+◌, ◌-◌, ◌*◌, ◌%◌, ◌^◌, ◌≤◌, ◌<◌}
use native.Mathlib.Omega.{arith}
use native.Mathlib.Nat.{add-zero, zero-add, zero-mul, mul-zero, mul_comm, one-mul, pow-suc, pow-zero, eq-or-lt_of_le, mul-mod_right}
use native.Mathlib.Nat.{zero-mod}
use Rattle.definitions.specs.Polynomials.{coef, deg, convolve, tabulate, constant, Multiplied, Divided}
use Rattle.definitions.specs.Resultants.{resultant, Reached}
use Rattle.law_numbers.specs.Congruence.{Cong, c_refl, c_sym, c_trans, c_eq, c_add, c_mul, c_mod, c_cancel, ring}
use Rattle.law_polynomials.specs.Words.{length_tabulate}
use Rattle.law_polynomials.specs.ReachedLaws.{reached_cong}
use Rattle.law_polynomials.specs.ReachedSteps.{coef_whole, coef_beyond, convolve_constant}
use Rattle.law_polynomials.specs.ReducedLaws.{unit_down, rest_up, flip}
use Rattle.law_polynomials.specs.ResultantLaws.{signed, resultant_scale_second, resultant_add, resultant_drop_first, resultant_drop_second}
use Rattle.law_polynomials.specs.ResultantLaws.{resultant_swap}
use Rattle.windows.specs.Window.{piece, behind}
use Rattle.windows.proofs.Leaf.{lt_or_le, piece_at, piece_over}
use Rattle.window_division.proofs.DivisionRounds.{spot, spot_off, risen, risen_at, risen_low, convolve_spot}
use Rattle.resultant_signs.specs.Degrees.{deg_of, resultant_lt}
use Rattle.resultant_signs.specs.Signs.{sign_first, sign_second}

-- ---- one elimination

-- g' of e words is l g less c x^s f, c the leading word of g
pub record Eliminated (n d s : ℕ) (f g g' : List ℕ) : Type 0 where
  pub first : length f ≡ d + 1
  pub second : length g ≡ d + s + 1
  pub third : length g' ≡ d + s
  pub low : (k : ℕ) → k < s → Cong n (coef g' k) (coef f d * coef g k)
  pub mid : (i : ℕ) → i < d → Cong n (coef g (d + s) * coef f i + coef g' (s + i)) (coef f d * coef g (s + i))

module _ (m d s : ℕ) (f g g' : List ℕ) (one : 1 ≤ d) (t : Eliminated (suc m) d s f g g') where
  abbrev l : ℕ
  l = coef f d

  abbrev c : ℕ
  c = coef g (d + s)

  G : List ℕ
  G = tabulate (suc (d + s)) (λ k. coef f d * coef g k)

  G' : List ℕ
  G' = tabulate (suc (d + s)) (coef g')

  Q : List ℕ
  Q = tabulate (suc s) (spot s (coef g (d + s)))

  G_at : (k : ℕ) → coef G k ≡ coef f d * coef g k
  unfolding G
  G_at k = coef_whole (suc (d + s)) (λ k. coef f d * coef g k) (λ i h. ap (λ (x : ℕ). coef f d * x) (coef_beyond g i (omega
      (arith, t.second))) ∙ mul-zero (coef f d)) k

  G'_at : (k : ℕ) → coef G' k ≡ coef g' k
  unfolding G'
  G'_at k = coef_whole (suc (d + s)) (coef g') (λ i h. coef_beyond g' i (omega (arith, t.third))) k

  Q_is : coef Q ≡ spot s (coef g (d + s))
  unfolding Q
  Q_is = fun_ext (λ k. coef_whole (suc s) (spot s (coef g (d + s))) (λ i h. spot_off s (coef g (d + s)) i (omega arith)) k)

  -- l g = c x^s f + g', at each place
  eliminated_at : (k : ℕ) → Cong (suc m) (c * risen s (coef f) k + coef g' k) (l * coef g k)
  eliminated_at k =
      ⊎_elim
      (λ h. c_trans (c_eq (ap (λ (x : ℕ). c * x + coef g' k) (risen_low s (coef f) k h) ∙ ap (λ (x : ℕ). x + coef g' k) (mul-zero c)
      ∙ zero-add (coef g' k))) (t.low k h))
      (λ h. within (k - s) (omega arith))
      (lt_or_le k s)
    where
      top : (i : ℕ) → k ≡ s + i → d ≤ i → (c * coef f i ≡ l * coef g k) → Cong (suc m) (c * risen s (coef f) k + coef g' k) (l * coef g k)
      top i q h e = c_eq (ap₂ (λ (x y : ℕ). c * x + y) (risen_at s (coef f) k i q) (coef_beyond g' k (omega (arith, t.third)))
          ∙ add-zero _ ∙ e)

      within : (i : ℕ) → k ≡ s + i → Cong (suc m) (c * risen s (coef f) k + coef g' k) (l * coef g k)
      within i q =
          ⊎_elim
          (λ h. subst (λ (x : ℕ). Cong (suc m) (c * risen s (coef f) x + coef g' x) (l * coef g x)) (sym q)
          (c_trans (c_eq (ap (λ (x : ℕ). c * x + coef g' (s + i)) (risen_at s (coef f) (s + i) i refl))) (t.mid i h)))
          (λ h. ⊎_elim
          (λ e. top i q h (ap (λ (x : ℕ). c * coef f x) (sym e) ∙ mul_comm c l ∙ ap (λ (x : ℕ). l * coef g x) (place e)))
          (λ e. top i q h (ap (λ (x : ℕ). c * x) (coef_beyond f i (omega (arith, t.first))) ∙ mul-zero c
          ∙ sym (ap (λ (x : ℕ). l * x) (coef_beyond g k (omega (arith, t.second))) ∙ mul-zero l)))
          (eq-or-lt_of_le h))
          (lt_or_le i d)
        where
          place : d ≡ i → d + s ≡ k
          place e = omega arith

  pub elimination_law : Cong (suc m) (coef f d ^ d * resultant (suc m) f g) (coef f d * resultant (suc m) f g')
  unfolding G G' Q
  elimination_law =
      record {
        same = sym (resultant_scale_second m l f G g (ap pred (length_tabulate (suc (d + s)) (λ k. coef f d * coef g k)) ∙ sym dg)
            (record { at = λ k. ap (λ (x : ℕ). x % suc m) (G_at k) }) ∙ ap (λ (x : ℕ). (l ^ x * resultant (suc m) f g) % suc m) df)
            ∙ resultant_add m s f G' G Q (ap pred (length_tabulate (suc s) (spot s c)))
            (ap pred (length_tabulate (suc (d + s)) (coef g'))
            ∙ sum) (ap pred (length_tabulate (suc (d + s)) (λ k. coef f d * coef g k)) ∙ sum)
            (record {
              at = λ k.
                  ap₂ (λ (u : ℕ → ℕ) (x : ℕ). (convolve u (coef f) k + x) % suc m) Q_is (G'_at k)
                  ∙ ap (λ (x : ℕ). (x + coef g' k) % suc m) (convolve_spot s c (coef f) k)
                  ∙ (eliminated_at k).same ∙ ap (λ (x : ℕ). x % suc m) (sym (G_at k));
            })
            ∙ resultant_drop_second m f G' g' (ap pred (length_tabulate (suc (d + s)) (coef g'))
            ∙ less) (λ k. ap (λ (x : ℕ). x % suc m) (G'_at k))
            ∙ ap (λ (x : ℕ). (coef f x * resultant (suc m) f g') % suc m) df;
      }
    where
      df : deg f ≡ d
      df = deg_of f d t.first

      dg : deg g ≡ d + s
      dg = deg_of g (d + s) t.second

      sum : d + s ≡ s + deg f
      sum = comm ∙ ap (λ (x : ℕ). s + x) (sym df)
        where
          comm : d + s ≡ s + d
          comm = omega arith

      less : d + s ≡ suc (deg g')
      less = next ∙ ap suc (sym (deg_of g' (d + s - 1) (t.third ∙ more)))
        where
          next : d + s ≡ suc (d + s - 1)
          next = omega arith

          more : d + s ≡ d + s - 1 + 1
          more = omega arith

  -- what f and g' combine to, f and g do
  pub elimination_reaches : (C : ℕ) → Reached (suc m) f g' C → Reached (suc m) f g C
  elimination_reaches C r = flip m g f C (unit_down m G L g f C multiplied (flip m f G C (rest_up m f G Q G' C divided
      (reached_cong (suc m) (omega arith) f f g' G' (λ k. refl) (λ k. ap (λ (x : ℕ). x % suc m) (sym (G'_at k))) C r))))
    where
      L : List ℕ
      L = coef f d ∷ []

      L_is : (k : ℕ) → coef L k ≡ constant (coef f d) k
      L_is zero = refl
      L_is (suc k) = coef_beyond L (suc k) (omega arith)

      multiplied : Multiplied (suc m) G L g
      multiplied = record {
        at = λ k. ap (λ (x : ℕ). x % suc m)
            (G_at k ∙ sym (ap (λ (u : ℕ → ℕ). convolve u (coef g) k) (fun_ext L_is) ∙ convolve_constant (coef f d) (coef g) k));
      }

      divided : Divided (suc m) G f Q G'
      divided = record {
        at = λ k. ap₂ (λ (u : ℕ → ℕ) (x : ℕ). (convolve u (coef f) k + x) % suc m) Q_is (G'_at k)
            ∙ ap (λ (x : ℕ). (x + coef g' k) % suc m) (convolve_spot s c (coef f) k)
            ∙ (eliminated_at k).same ∙ ap (λ (x : ℕ). x % suc m) (sym (G_at k));
      }

-- ---- degrees d and d - 1 exchanged

pub swap_law : (m d : ℕ) (f r : List ℕ) → 1 ≤ d → length f ≡ d + 1 → length r ≡ d → resultant (suc m) f r ≡ resultant (suc m) r f
swap_law m d f r one lf lr =
    resultant_swap m f r
    ∙ ap (λ (x : ℕ). signed (suc m) x (resultant (suc m) r f)) (ap₂ (λ (x y : ℕ). x * y) (deg_of f d lf) (deg_of r (d - 1) (lr ∙ more)))
    ∙ sym (go (d % 2) refl (omega arith))
  where
    more : d ≡ d - 1 + 1
    more = omega arith

    R : ℕ
    R = resultant (suc m) r f

    small : resultant (suc m) r f < suc m
    small = resultant_lt (suc m) (omega arith) r f

    go : (x : ℕ) → d % 2 ≡ x → x < 2 → resultant (suc m) r f ≡ signed (suc m) (d * (d - 1)) (resultant (suc m) r f)
    go zero h b = sign_first (suc m) d (d - 1) (resultant (suc m) r f) small h
    go (suc zero) h b = sign_second (suc m) d (d - 1) (resultant (suc m) r f) small (omega arith)
    go (suc (suc x)) h b = absurd (omega arith)

-- ---- an elimination at e = d

pub last_law : (m d : ℕ) (f g r : List ℕ) → 1 ≤ d → Eliminated (suc m) d 0 f g r
    → Cong (suc m) (coef f d ^ d * resultant (suc m) f g) (coef f d * resultant (suc m) r f)
last_law m d f g r one t =
    c_trans (elimination_law m d 0 f g r one t) (c_eq
    (ap (λ (x : ℕ). coef f d * x) (swap_law m d f r one t.first (t.third ∙ add-zero d))))

-- ---- two eliminations at e = d + 1

pub mul_pow : (a b k : ℕ) → (a * b) ^ k ≡ a ^ k * b ^ k
mul_pow a b zero = pow-zero (a * b) ∙ sym (ap₂ (λ (x y : ℕ). x * y) (pow-zero a) (pow-zero b))
mul_pow a b (suc k) = pow-suc (a * b) k ∙ ap (λ (x : ℕ). x * (a * b)) (mul_pow a b k) ∙ four (a ^ k) (b ^ k)
    ∙ sym (ap₂ (λ (x y : ℕ). x * y) (pow-suc a k) (pow-suc b k))
  where
    four : (x y : ℕ) → x * y * (a * b) ≡ x * a * (y * b)
    four x y = simp ring

-- r of d words is x g less (p x + q) f, where x = l^2, p = l c, q = l g_d - c f_(d-1), c the leading word of g
pub record EliminatedTwice (n d x p q : ℕ) (f g r : List ℕ) : Type 0 where
  pub first : length f ≡ d + 1
  pub second : length g ≡ d + 1 + 1
  pub third : length r ≡ d
  pub square : Cong n x (coef f d * coef f d)
  pub upper : Cong n p (coef f d * coef g (d + 1))
  pub lower : Cong n (q + coef g (d + 1) * coef f (d - 1)) (coef f d * coef g d)
  pub at : (i : ℕ) → i < d → Cong n (coef r i + p * behind (coef f) i + q * coef f i) (x * coef g i)

module _ (m d x p q : ℕ) (f g r : List ℕ) (one : 1 ≤ d) (t : EliminatedTwice (suc m) d x p q f g r) where
  -- what the first elimination leaves
  H : ℕ → ℕ
  H k = coef f d * coef g k + m * (coef g (d + 1) * behind (coef f) k)

  h : List ℕ
  h = tabulate (d + 1) H

  whole : (k : ℕ) → Cong (suc m) (coef g (d + 1) * behind (coef f) k + H k) (coef f d * coef g k)
  unfolding H
  whole k =
      let y : ℕ = coef g (d + 1) * behind (coef f) k in
      let z : ℕ = coef f d * coef g k in
      c_trans (c_eq (split y z)) (c_trans (c_add (c_refl {a = z}) (record {
        same = mul-mod_right (suc m) y
            ∙ sym (zero-mod (suc m));
      })) (c_eq (add-zero z)))
    where
      split : (y z : ℕ) → y + (z + m * y) ≡ z + suc m * y
      split y z = omega arith

  h_at : (k : ℕ) → k < d + 1 → coef h k ≡ H k
  unfolding h
  h_at k b = Rattle.law_polynomials.specs.Words.coef_tabulate (d + 1) H k b

  h_length : length h ≡ d + 1
  unfolding h
  h_length = length_tabulate (d + 1) H

  first_elimination : Eliminated (suc m) d 1 f g h
  first_elimination = record {
    first = t.first;
    second = t.second;
    third = h_length;
    low = λ k b. c_trans (c_eq (h_at k (omega arith))) (low k b);
    mid = λ i b. c_trans (c_add c_refl (c_eq (h_at (1 + i) (omega arith))))
        (subst (λ (z : ℕ). Cong (suc m) (coef g (d + 1) * coef f i + H z) (coef f d * coef g z)) next (whole (suc i)));
  }
    where
      next : {i : ℕ} → suc i ≡ 1 + i
      next {i} = omega arith

      low : (k : ℕ) → k < 1 → Cong (suc m) (H k) (coef f d * coef g k)
      low zero b = c_trans (c_eq (sym (ap (λ (z : ℕ). z + H 0) (mul-zero (coef g (d + 1))) ∙ zero-add (H 0)))) (whole 0)
      low (suc k) b = absurd (omega arith)

  -- its leading word is q
  lead : Cong (suc m) (H d) q
  lead =
      c_cancel (coef g (d + 1) * coef f (d - 1)) (omega arith)
      (c_trans (c_eq (add_comm (H d) (coef g (d + 1) * coef f (d - 1))))
      (c_trans (c_eq (ap (λ (z : ℕ). coef g (d + 1) * z + H d) (sym before))) (c_trans (whole d) (c_sym t.lower))))
    where
      add_comm : (a b : ℕ) → a + b ≡ b + a
      add_comm a b = omega arith

      behind_is : (F : ℕ → ℕ) (k : ℕ) → 1 ≤ k → behind F k ≡ F (k - 1)
      behind_is F zero b = absurd (omega arith)
      behind_is F (suc k) b = ap F (less k)
        where
          less : (k : ℕ) → k ≡ suc k - 1
          less k = omega arith

      before : behind (coef f) d ≡ coef f (d - 1)
      before = behind_is (coef f) d one

  second_elimination : Eliminated (suc m) d 0 f h r
  second_elimination = record {
    first = t.first;
    second = h_length ∙ ap (λ (z : ℕ). z + 1) (sym (add-zero d));
    third = t.third ∙ sym (add-zero d);
    low = λ k b. absurd (omega arith);
    mid = λ i b. subst (λ (z : ℕ). Cong (suc m) (coef h (d + 0) * coef f i + coef r z) (coef f d * coef h z)) (sym (zero-add i))
        (c_trans (c_add (c_mul (c_trans (c_eq (ap (coef h) (add-zero d)
        ∙ h_at d (omega arith))) lead) (c_refl {a = coef f i})) (c_refl {a = coef r i}))
        (c_trans (word i b) (c_mul (c_refl {a = coef f d}) (c_eq (sym (h_at i (omega arith)))))));
  }
    where
      word : (i : ℕ) → i < d → Cong (suc m) (q * coef f i + coef r i) (coef f d * H i)
      word i b =
          let u : ℕ = behind (coef f) i in
          let v : ℕ = coef g (d + 1) in
          let l : ℕ = coef f d in
          c_cancel (p * u) (omega arith)
          (c_trans (c_eq {b = coef r i + p * u + q * coef f i} (simp ring))
          (c_trans (t.at i b)
          (c_trans (c_mul t.square (c_refl {a = coef g i}))
          (c_trans (c_eq {b = l * (l * coef g i)} (simp ring))
          (c_trans (c_mul (c_refl {a = l}) (c_sym (whole i)))
          (c_trans (c_eq {b = l * H i + l * v * u} (simp ring))
          (c_add (c_refl {a = l * H i}) (c_mul (c_sym t.upper) (c_refl {a = u})))))))))

  pub pair_law : Cong (suc m) (x ^ d * resultant (suc m) f g) (x * resultant (suc m) r f)
  pair_law =
      let l : ℕ = coef f d in
      let R : ℕ = resultant (suc m) f g in
      let S : ℕ = resultant (suc m) f h in
      let T : ℕ = resultant (suc m) r f in
      c_trans (c_mul (c_trans (Rattle.law_numbers.specs.Congruence.c_pow t.square d) (c_eq (mul_pow l l d))) (c_refl {a = R}))
      (c_trans (c_eq {b = l ^ d * (l ^ d * R)} (simp ring))
      (c_trans (c_mul (c_refl {a = l ^ d}) (elimination_law m d 1 f g h one first_elimination))
      (c_trans (c_eq {b = l * (l ^ d * S)} (simp ring))
      (c_trans (c_mul (c_refl {a = l}) (last_law m d f h r one second_elimination))
      (c_trans (c_eq {b = l * l * T} (simp ring)) (c_mul (c_sym t.square) (c_refl {a = T})))))))

  pub pair_reaches : (C : ℕ) → Reached (suc m) r f C → Reached (suc m) f g C
  pair_reaches C t₁ = elimination_reaches m d 1 f g h one first_elimination C
      (elimination_reaches m d 0 f h r one second_elimination C (flip m r f C t₁))

-- ---- a zero leading word

pub zero_law : (m d e : ℕ) (f f' g : List ℕ) → 1 ≤ d → length f ≡ d + 1 → length f' ≡ d → length g ≡ e + 1 → ((k : ℕ)
    → coef f k ≡ coef f' k)
    → resultant (suc m) f g ≡ signed (suc m) e ((coef g e * resultant (suc m) f' g) % suc m)
zero_law m d e f f' g one lf lf' lg h =
    resultant_drop_first m f f' g (deg_of f d lf ∙ next ∙ ap suc (sym (deg_of f' (d - 1) (lf'
    ∙ more)))) (λ k. ap (λ (x : ℕ). x % suc m) (h k))
    ∙ ap (λ (x : ℕ). signed (suc m) x ((coef g x * resultant (suc m) f' g) % suc m)) (deg_of g e lg)
  where
    more : d ≡ d - 1 + 1
    more = omega arith

    next : d ≡ suc (d - 1)
    next = omega arith

-- ---- the laws for n at least 1

pub elimination_law_at : (n d s : ℕ) (f g g' : List ℕ) → 1 ≤ n → 1 ≤ d → Eliminated n d s f g g'
    → Cong n (coef f d ^ d * resultant n f g) (coef f d * resultant n f g')
elimination_law_at zero d s f g g' pos one t = absurd (omega arith)
elimination_law_at (suc m) d s f g g' pos one t = elimination_law m d s f g g' one t

pub last_law_at : (n d : ℕ) (f g r : List ℕ) → 1 ≤ n → 1 ≤ d → Eliminated n d 0 f g r
    → Cong n (coef f d ^ d * resultant n f g) (coef f d * resultant n r f)
last_law_at zero d f g r pos one t = absurd (omega arith)
last_law_at (suc m) d f g r pos one t = last_law m d f g r one t

pub pair_law_at : (n d x p q : ℕ) (f g r : List ℕ) → 1 ≤ n → 1 ≤ d → EliminatedTwice n d x p q f g r
    → Cong n (x ^ d * resultant n f g) (x * resultant n r f)
pair_law_at zero d x p q f g r pos one t = absurd (omega arith)
pair_law_at (suc m) d x p q f g r pos one t = pair_law m d x p q f g r one t

-- a sign goes with either factor
signed_times : (n k c R : ℕ) → c < n → Cong n (signed n k ((c * R) % n)) (signed n k c * R)
signed_times n zero c R l = c_mod (c * R)
signed_times n (suc k) c R l =
    let u : ℕ = signed n k ((c * R) % n) in
    let v : ℕ = signed n k c in
    let lu : u < n = Rattle.resultant_signs.specs.Signs.signed_lt n k ((c * R) % n) (native.Mathlib.Nat.mod-lt (c * R)
    (omega arith)) in
    let lv : v < n = Rattle.resultant_signs.specs.Signs.signed_lt n k c l in
    c_cancel u (omega arith)
    (c_trans (c_add (c_mod (n - u)) (c_refl {a = u}))
    (c_trans (c_eq {b = n * 1} (whole u lu))
    (c_trans (record { same = mul-mod_right n 1 ∙ sym (mul-mod_right n R) })
    (c_trans (c_eq {b = (n - v) * R + v * R} (parts v lv))
    (c_add (c_mul (c_sym (c_mod (n - v))) (c_refl {a = R})) (c_sym (signed_times n k c R l)))))))
  where
    whole : (u : ℕ) → u < n → n - u + u ≡ n * 1
    whole u l = omega arith

    parts : (v : ℕ) → v < n → n * R ≡ (n - v) * R + v * R
    parts v l = ap (λ (x : ℕ). x * R) split ∙ native.Mathlib.Nat.add-mul (n - v) v R
      where
        split : n ≡ n - v + v
        split = omega arith

pub zero_law_is : (n d e : ℕ) (f f' g : List ℕ) → 1 ≤ n → 1 ≤ d → length f ≡ d + 1 → length f' ≡ d → length g ≡ e + 1
    → ((k : ℕ) → coef f k ≡ coef f' k) → resultant n f g ≡ signed n e ((coef g e * resultant n f' g) % n)
zero_law_is zero d e f f' g pos one lf lf' lg h = absurd (omega arith)
zero_law_is (suc m) d e f f' g pos one lf lf' lg h = zero_law m d e f f' g one lf lf' lg h

-- the words of f in a buffer, and those without the last, which is 0
pub dropped_words : (w : List ℕ) (a d : ℕ) → 1 ≤ d → get_or w (a + d) 0 ≡ 0 → (k : ℕ)
    → coef (piece w a (d + 1)) k ≡ coef (piece w a (d - 1 + 1)) k
dropped_words w a d one z k = ⊎_elim
    (λ h. piece_at w a (d + 1) k (omega arith) ∙ sym (piece_at w a (d - 1 + 1) k (omega arith)))
    (λ h. ⊎_elim
    (λ q. ap (coef (piece w a (d + 1))) (sym q) ∙ piece_at w a (d + 1) d (omega arith) ∙ z
    ∙ sym (piece_over w a (d - 1 + 1) k (omega arith)))
    (λ q. piece_over w a (d + 1) k (omega arith) ∙ sym (piece_over w a (d - 1 + 1) k (omega arith)))
    (eq-or-lt_of_le h))
    (lt_or_le k d)

pub zero_law_at : (n d e : ℕ) (f f' g : List ℕ) → 1 ≤ n → 1 ≤ d → length f ≡ d + 1 → length f' ≡ d → length g ≡ e + 1 → ((k : ℕ)
    → coef f k ≡ coef f' k)
    → coef g e < n → Cong n (resultant n f g) (signed n e (coef g e) * resultant n f' g)
zero_law_at zero d e f f' g pos one lf lf' lg h b = absurd (omega arith)
zero_law_at (suc m) d e f f' g pos one lf lf' lg h b =
    c_trans (c_eq (zero_law m d e f f' g one lf lf' lg h)) (signed_times (suc m) e (coef g e) (resultant (suc m) f' g) b)

-- ---- what is reached, for n at least 1

-- every constant that f' and g' combine to, f and g combine to
pub record Within (n : ℕ) (f g f' g' : List ℕ) : Type 0 where
  pub all : (c : ℕ) → Reached n f' g' c → Reached n f g c

pub within_self : {n : ℕ} {f g : List ℕ} → Within n f g f g
within_self = record { all = λ c r. r }

pub within_trans : {n : ℕ} {f g f' g' f'' g'' : List ℕ} → Within n f g f' g' → Within n f' g' f'' g'' → Within n f g f'' g''
within_trans p q = record { all = λ c r. p.all c (q.all c r) }

pub elimination_within : (n d s : ℕ) (f g g' : List ℕ) → 1 ≤ n → 1 ≤ d → Eliminated n d s f g g' → Within n f g f g'
elimination_within zero d s f g g' pos one t = absurd (omega arith)
elimination_within (suc m) d s f g g' pos one t = record { all = elimination_reaches m d s f g g' one t }

pub last_within : (n d : ℕ) (f g r : List ℕ) → 1 ≤ n → 1 ≤ d → Eliminated n d 0 f g r → Within n f g r f
last_within zero d f g r pos one t = absurd (omega arith)
last_within (suc m) d f g r pos one t = record { all = λ c h. elimination_reaches m d 0 f g r one t c (flip m r f c h) }

pub pair_within : (n d x p q : ℕ) (f g r : List ℕ) → 1 ≤ n → 1 ≤ d → EliminatedTwice n d x p q f g r → Within n f g r f
pair_within zero d x p q f g r pos one t = absurd (omega arith)
pair_within (suc m) d x p q f g r pos one t = record { all = pair_reaches m d x p q f g r one t }

pub zero_within : (n : ℕ) (f f' g : List ℕ) → 1 ≤ n → ((k : ℕ) → coef f k ≡ coef f' k) → Within n f g f' g
zero_within n f f' g pos h = record {
  all = λ c r. reached_cong n pos f' f g g (λ k. ap (λ (x : ℕ). x % n) (sym (h k))) (λ k. refl) c r;
}

-- a constant is reached by itself and any other
pub itself : (n : ℕ) (f g : List ℕ) → length f ≡ 0 + 1 → Reached n f g (coef f 0)
itself n f g l = record {
  u = 1 ∷ [];
  v = [];
  combination = record {
    sum = λ k. ap (λ (x : ℕ). x % n) (ap₂ (λ (x y : ℕ). x + y) (one k) (nothing k) ∙ add-zero (constant (coef f 0) k));
  };
}
  where
    unit : (k : ℕ) → coef (1 ∷ []) k ≡ constant 1 k
    unit zero = refl
    unit (suc k) = coef_beyond (1 ∷ []) (suc k) (omega arith)

    is : (k : ℕ) → 1 * coef f k ≡ constant (coef f 0) k
    is zero = one-mul (coef f 0)
    is (suc k) = one-mul (coef f (suc k)) ∙ coef_beyond f (suc k) (omega (arith, l))

    one : (k : ℕ) → convolve (coef (1 ∷ [])) (coef f) k ≡ constant (coef f 0) k
    one k = ap (λ (u : ℕ → ℕ). convolve u (coef f) k) (fun_ext unit) ∙ convolve_constant 1 (coef f) k ∙ is k

    empty : (k : ℕ) → coef [] k ≡ constant 0 k
    empty zero = coef_beyond [] 0 (omega arith)
    empty (suc k) = coef_beyond [] (suc k) (omega arith)

    nothing : (k : ℕ) → convolve (coef []) (coef g) k ≡ 0
    nothing k = ap (λ (u : ℕ → ℕ). convolve u (coef g) k) (fun_ext empty) ∙ convolve_constant 0 (coef g) k ∙ zero-mul (coef g k)
