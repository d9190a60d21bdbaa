-- The series of a unit polynomial ends: word j is a multiple of the j/k-th power of a nilpotent number, and the K-th is 0.
--
--   SeriesMultiple n m a         a is a multiple of m modulo n
--   common_of              a number in the radical of n that divides some given ones of the radical
--   SeriesInverse          Y U is the constant s U_0, and the words of Y beyond (K - 1) k are 0
--   series_exact           so it is for a unit polynomial U of degree k, if Y has more than (K - 1) k words
use mathlib.Core.Path.{◌≡◌, refl, sym, ap, subst, ◌∙◌}
use mathlib.Core.List.{List}
use mathlib.Core.Logic.{inl, inr, ⊎_elim}
use Prim.Native.Nat.{ℕ, zero, suc, ◌+◌, ◌-◌, ◌*◌, ◌/◌, ◌%◌, ◌^◌, ◌≤◌, ◌<◌, ◌∣◌}
use native.Mathlib.Omega.{arith}
use native.Mathlib.Decide.{dec_lt}
use native.Mathlib.Nat.{mod-eq_of_lt, mul-zero, zero-mul, one-mul, add-zero, zero-add, pow-zero, pow-suc, mul_comm, zero-mod, dvd_trans}
use native.Mathlib.Nat.{dvd-mul_right, mul-div_cancel'}
use Rattle.law_numbers.specs.Congruence.{Cong, c_refl, c_sym, c_trans, c_eq, c_add, c_mul, c_zero, ring}
use Rattle.law_numbers.specs.Divisors.{gcd_exists}
use Rattle.law_numbers.specs.Nilpotents.{InRadical, nilpotent_radical, radical_power}
use Rattle.law_numbers.specs.Logarithm.{K_positive}
use Rattle.definitions.specs.Residues.{K}
use Rattle.definitions.specs.Polynomials.{coef, total, convolve, constant, UnitPolynomial}
use Rattle.law_polynomials.specs.Words.{convolve_suc}
use Rattle.convolution.specs.Sums.{convolve_comm}
use Rattle.windows.specs.Window.{piece}
use Rattle.windows.proofs.Leaf.{lt_or_le, piece_at, piece_over}
use Rattle.window_factor.specs.Factors.{Series}

-- ---- multiples modulo n

pub record SeriesMultiple (n m a : ℕ) : Type 0 where
  pub times : ℕ
  pub is : Cong n a (m * times)

multiple_zero : (n m : ℕ) → SeriesMultiple n m 0
multiple_zero n m = record { times = 0; is = c_eq (sym (mul-zero m)) }

multiple_all : (n ρ a : ℕ) → SeriesMultiple n (ρ ^ 0) a
multiple_all n ρ a = record { times = a; is = c_eq (sym (one-mul a) ∙ ap (λ (x : ℕ). x * a) (sym (pow-zero ρ))) }

multiple_add : {n m a b : ℕ} → SeriesMultiple n m a → SeriesMultiple n m b → SeriesMultiple n m (a + b)
multiple_add {n} {m} x y = record { times = x.times + y.times; is = c_trans (c_add x.is y.is) (c_eq (omega arith)) }

multiple_scale : {n m a : ℕ} (c : ℕ) → SeriesMultiple n m a → SeriesMultiple n m (c * a)
multiple_scale {n} {m} {a} c x = record { times = c * x.times; is = c_trans (c_mul (c_refl {a = c}) x.is) (c_eq (simp ring)) }

multiple_same : {n m a b : ℕ} → Cong n a b → SeriesMultiple n m b → SeriesMultiple n m a
multiple_same c x = record { times = x.times; is = c_trans c x.is }

-- one factor ρ more
multiple_more : {n a : ℕ} (ρ u c : ℕ) → ρ ∣ u → SeriesMultiple n (ρ ^ c) a → SeriesMultiple n (ρ ^ suc c) (u * a)
multiple_more {n} {a} ρ u c d x =
    let e : ρ * (u / ρ) ≡ u = mul-div_cancel' ρ d in
    record {
      times = u / ρ * x.times;
      is = c_trans (c_mul (c_eq (sym e)) x.is)
          (c_eq ((let z : ρ * (u / ρ) * (ρ ^ c * x.times) ≡ ρ ^ c * ρ * (u / ρ * x.times) = simp ring in z)
          ∙ ap (λ (y : ℕ). y * (u / ρ * x.times)) (sym (pow-suc ρ c))));
    }

multiple_total : {n m : ℕ} (l : ℕ) (F : ℕ → ℕ) → ((i : ℕ) → i < l → SeriesMultiple n m (F i)) → SeriesMultiple n m (total l F)
multiple_total {n} {m} zero F h = multiple_zero n m
multiple_total (suc l) F h = multiple_add (h 0 (omega arith)) (multiple_total l (λ i. F (suc i)) (λ i b. h (suc i) (omega arith)))

-- a multiple of what n divides is 0
multiple_none : {n m a : ℕ} → n ∣ m → SeriesMultiple n m a → Cong n a 0
multiple_none {n} {m} {a} d x = c_trans x.is (c_trans (c_mul (c_zero d) (c_refl {a = x.times})) (c_eq (zero-mul x.times)))

-- ---- a number of the radical that divides m given numbers of the radical

pub record CommonOf (n m : ℕ) (F : ℕ → ℕ) : Type 0 where
  pub ρ : ℕ
  pub divides : (k : ℕ) → k < m → ρ ∣ F k
  pub radical : InRadical n ρ

pub common_of : (n m : ℕ) (F : ℕ → ℕ) → ((k : ℕ) → k < m → InRadical n (F k)) → CommonOf n m F
common_of n zero F h = record { ρ = n; divides = λ k l. absurd (omega arith); radical = record { at = λ p pr v. v } }
common_of n (suc m) F h =
    let t = common_of n m (λ i. F (suc i)) (λ k l. h (suc k) (omega arith)) in
    let g = gcd_exists (F 0) t.ρ in
    record {
      ρ = g.0;
      divides = elim [ zero ↦ λ l. g.1.left | suc k ↦ λ l. dvd_trans g.0 g.1.right (t.divides k (omega arith)) ];
      radical = record { at = λ p pr v. g.1.most p ((h 0 (omega arith)).at p pr v) (t.radical.at p pr v) };
    }

-- ---- the words

module _ (n k s i len : ℕ) (U Y : ℕ → ℕ) (two : 2 ≤ n) (unit : Cong n (i * U 0) 1) (deg : (x : ℕ) → k < x → U x ≡ 0)
    (over : (j : ℕ) → len ≤ j → Y j ≡ 0)
    (eq : (j : ℕ) → j < len → Cong n (convolve Y U j) (constant (s * U 0) j)) (ρ : ℕ) (divides : (x : ℕ) → x < k → ρ ∣ U (suc x))
    (radical : InRadical n ρ) where
  -- Y_j is - i T where U_0 Y_j + T is 0
  solved : (y t : ℕ) → Cong n (U 0 * y + t) 0 → Cong n y (i * (n - 1) * t)
  solved y t c =
      c_trans (c_eq (sym (one-mul y)))
      (c_trans (c_mul (c_sym unit) (c_refl {a = y}))
      (c_trans (c_eq {b = i * (U 0 * y)} (simp ring))
      (c_trans (c_mul (c_refl {a = i}) less) (c_eq {b = i * (n - 1) * t} (simp ring)))))
    where
      more : (m : ℕ) → m + 1 ≡ n → U 0 * y + t + m * t ≡ U 0 * y + n * t
      more m e = rw (← e) (omega arith)

      less : Cong n (U 0 * y) ((n - 1) * t)
      less =
          c_trans (c_sym (c_trans (c_add (c_refl {a = U 0 * y}) (c_zero (dvd-mul_right n t))) (c_eq (add-zero (U 0 * y)))))
          (c_trans (c_eq (sym (more (n - 1) (omega arith)))) (c_trans (c_add c (c_refl {a = (n - 1) * t})) (c_eq (zero-add _))))

  -- a term of the recurrence
  term : (c h x : ℕ) → x < suc h → ((c * k < h - x + k) → SeriesMultiple n (ρ ^ c) (Y (h - x))) → c * k ≤ h → Dec (x < k)
      → SeriesMultiple n (ρ ^ suc c) (U (suc x) * Y (h - x))
  term c h x l ih b (yes d) = multiple_more ρ (U (suc x)) c (divides x d) (ih (omega arith))
  term c h x l ih b (no d) = multiple_same (c_eq (ap (λ (y : ℕ). y * Y (h - x)) (deg (suc x) (omega arith)) ∙ zero-mul (Y (h - x))))
      (multiple_zero n (ρ ^ suc c))

  inside : (c h : ℕ) → c * k ≤ h → suc h < len → ((j : ℕ) → j ≤ h → c * k < j + k → SeriesMultiple n (ρ ^ c) (Y j))
      → SeriesMultiple n (ρ ^ suc c) (Y (suc h))
  inside c h b l ih =
      let t : ℕ = convolve (λ x. U (suc x)) Y h in
      let sum : SeriesMultiple n (ρ ^ suc c) t = multiple_total (suc h) (λ x. U (suc x) * Y (h - x))
      (λ x q. term c h x q (ih (h - x) (omega arith)) b (dec_lt x k)) in
      multiple_same (solved (Y (suc h)) t (c_trans (c_eq (sym (convolve_comm Y U (suc h) ∙ convolve_suc U Y h))) (eq (suc h) l)))
      (multiple_scale (i * (n - 1)) sum)

  power_at : (b j c : ℕ) → j < b → c * k < j + k → SeriesMultiple n (ρ ^ c) (Y j)
  power_at zero j c l h = absurd (omega arith)
  power_at (suc b) j zero l h = multiple_all n ρ (Y j)
  power_at (suc b) zero (suc c) l h = absurd (omega arith)
  power_at (suc b) (suc j) (suc c) l h =
      ⊎_elim
      (λ q. inside c j (omega arith) q (λ x p r. power_at b x c (omega arith) r))
      (λ q. multiple_same (c_eq (over (suc j) q)) (multiple_zero n (ρ ^ suc c)))
      (lt_or_le (suc j) len)

  word_power : (j c : ℕ) → c * k < j + k → SeriesMultiple n (ρ ^ c) (Y j)
  word_power j c h = power_at (suc j) j c (omega arith) h

  none : n ∣ ρ ^ K n
  none = radical_power (omega arith) radical

  -- (K - 1) k + k is K k
  split : (c : ℕ) → 1 ≤ c → c * k ≡ (c - 1) * k + k
  split zero l = absurd (omega arith)
  split (suc c) l = let e : suc c - 1 ≡ c = omega arith in rw e (omega arith)

  pub zeros_mod : (j : ℕ) → (K n - 1) * k < j → Cong n (Y j) 0
  zeros_mod j l = multiple_none none (word_power j (K n) (omega (arith, split (K n) (K_positive n two))))

  -- beyond the words of Y
  far : (j x : ℕ) → len ≤ j → (K n - 1) * k < j → x < suc j → SeriesMultiple n (ρ ^ K n) (Y x * U (j - x))
  far j x b l h =
      ⊎_elim
      (λ p. multiple_same (c_eq (ap (λ (y : ℕ). y * U (j - x)) (over x p) ∙ zero-mul (U (j - x)))) (multiple_zero n (ρ ^ K n)))
      (λ p. ⊎_elim
      (λ q. multiple_same (c_eq (ap (λ (y : ℕ). Y x * y) (deg (j - x) q) ∙ mul-zero (Y x))) (multiple_zero n (ρ ^ K n)))
      (λ q.
      let e : suc (K n - 1) ≡ K n = omega (arith, K_positive n two) in
      let y : j - x ≡ suc (j - x - 1) = omega arith in
      subst (λ (z : ℕ). SeriesMultiple n (ρ ^ z) (Y x * U (j - x))) e
      (multiple_same (c_eq (mul_comm (Y x) (U (j - x))))
      (multiple_more ρ (U (j - x)) (K n - 1) (subst (λ (z : ℕ). ρ ∣ U z) (sym y) (divides (j - x - 1) (omega arith)))
      (word_power x (K n - 1) (omega arith)))))
      (lt_or_le k (j - x)))
      (⊎_elim (λ p. inr p) (λ p. inl p) (lt_or_le x len))

  pub product_mod : (K n - 1) * k < len → (j : ℕ) → Cong n (convolve Y U j) (constant (s * U 0) j)
  product_mod l j =
      ⊎_elim (eq j)
      (λ b. c_trans (multiple_none none (multiple_total (suc j) (λ x. Y x * U (j - x)) (λ x h. far j x b (omega arith) h)))
      (c_eq (sym (rest j (omega arith)))))
      (lt_or_le j len)
    where
      rest : (j : ℕ) → 0 < j → constant (s * U 0) j ≡ 0
      rest zero h = absurd (omega arith)
      rest (suc j) h = refl

-- ---- in the buffer

pub record SeriesInverse (n k s : ℕ) (U Y : List ℕ) : Type 0 where
  pub zeros : (j : ℕ) → (K n - 1) * k < j → coef Y j ≡ 0
  pub equation : (j : ℕ) → convolve (coef Y) (coef U) j % n ≡ constant (s * coef U 0) j % n

pub series_exact : {n k s len : ℕ} {w w' : List ℕ} → 2 ≤ n → Series n k s len w w' → UnitPolynomial n (piece w 0 (k + 1))
    → (K n - 1) * k < len
    → SeriesInverse n k s (piece w 0 (k + 1)) (piece w' (k + 1) len)
series_exact {n} {k} {s} {len} {w} {w'} two sr up l =
    let U : ℕ → ℕ = coef (piece w 0 (k + 1)) in
    let Y : ℕ → ℕ = coef (piece w' (k + 1) len) in
    let i : ℕ = up.unit.inverse in
    let unit : Cong n (i * U 0) 1 = c_trans (c_eq (mul_comm i (U 0))) (record { same = up.unit.is.one }) in
    let r = common_of n k (λ (x : ℕ). U (suc x)) (λ x b. nilpotent_radical (up.nilpotent (suc x) (omega arith))) in
    let deg : (x : ℕ) → k < x → U x ≡ 0 = λ x b. piece_over w 0 (k + 1) x (omega arith) in
    let over : (j : ℕ) → len ≤ j → Y j ≡ 0 = λ j b. piece_over w' (k + 1) len j b in
    let eq : (j : ℕ) → j < len → Cong n (convolve Y U j) (constant (s * U 0) j) = λ j b. record { same = sr.equation j b } in
    record {
      zeros = λ j b. ⊎_elim
          (λ q. sym (mod-eq_of_lt (subst (λ (x : ℕ). x < n) (sym (piece_at w' (k + 1) len j q)) (sr.below.at j q)))
          ∙ (zeros_mod n k s i len U Y two unit deg over eq r.ρ r.divides r.radical j b).same ∙ zero-mod n)
          (λ q. over j q)
          (lt_or_le j len);
      equation = λ j. (product_mod n k s i len U Y two unit deg over eq r.ρ r.divides r.radical l j).same;
    }
