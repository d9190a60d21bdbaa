-- Newton's divided differences at the points 0, 1, 2, …, over any commutative ring in which 1, …, b are units: from the values of a
-- polynomial of b + 1 terms to its coefficients, in the steps of a loop in place.
--
--   num k               the number k in the ring
--   diff inv y k i      the k-th divided difference of the values y at i, …, i + k; inv k is the inverse of k
--   Stage b inv y k c   what the array c holds after k passes: diff i 0 below k, diff k (i - k) from k on
--   stage_first, stage_next, stage_last    before the first pass; one pass; after b passes
--   grow j x f          x + (X - j) f, one step of Horner's rule
--   nest r j c          c 0 + (X - j) (c 1 + (X - (j + 1)) (c 2 + …)), r terms; nest_step is a round of the loop
--   falling m c         its value at j + m: c 0 + m (c 1 + (m - 1) (c 2 + …))
--   newton_values, newton    the nested form of the differences has the values, and the coefficients
--
-- Letters: f is a polynomial of b + 1 terms, y its values, c an array; i, j, m are points, k a pass.
use Rattle.std.specs.Prelude.{◌≡◌, refl, [], ◌∷◌, ℕ, zero, suc, ◌<◌, ◌≤◌, ◌+◌ as ◌+ℕ◌, ◌-◌ as ◌-ℕ◌}
use Rattle.std.proofs.Common.{sym, ◌∙◌, ap, ap₂, arith}
use Rattle.std.proofs.Math.Path.{fun_ext}
use Rattle.std.proofs.Math.Decide.{dec_lt}
use Rattle.law_algebra.specs.Normaliser.{by_ring, quote}
use Rattle.law_algebra.specs.Ring.{CRing, add_zero, mul_zero, zero_mul, add_neg}
use Rattle.law_algebra.specs.Evaluation.{ev, ev_lin, ev_more}
use Rattle.law_algebra.specs.Interpolation.{same_values}

module _ {R : Type 0} (𝓡 : CRing R) where
  open 𝓡 use {add as ◌+◌, mul as ◌*◌, neg as -◌, nil as 𝟘, unit as 𝟙, add_assoc, zero_add, mul_assoc, mul_comm, one_mul}

  infixl 65 ◌+◌
  infixl 70 ◌*◌
  infix 75 -◌
  abbrev pub num : ℕ → R
  num zero = 𝟘
  num (suc k) = 𝟙 + num k

  pub num_add : (i j k : ℕ) → i +ℕ j ≡ k → num k ≡ num i + num j
  num_add zero j k h = let e : k ≡ j = omega arith in ap num e ∙ sym (zero_add (num j))
  num_add (suc i) j zero h = absurd (omega arith)
  num_add (suc i) j (suc k) h = ap (λ x. 𝟙 + x) (num_add i j k (omega arith)) ∙ sym (add_assoc 𝟙 (num i) (num j))

  pub num_sub : (i j k : ℕ) → i +ℕ j ≡ k → num k + (- num i) ≡ num j
  num_sub i j k h = ap (λ x. x + (- num i)) (num_add i j k h) ∙ round (num i) (num j)
    where
      round : (x y : R) → x + y + (- x) ≡ y
      round x y = by_ring 𝓡 (x ∷ y ∷ []) (search quote depth 20) (search quote depth 20) refl

  -- c 0 + m (c 1 + (m - 1) (c 2 + …))
  abbrev pub falling : ℕ → (ℕ → R) → R
  falling zero c = c 0
  falling (suc m) c = c 0 + num (suc m) * falling m (λ k. c (suc k))

  pub falling_cong : (m : ℕ) (a c : ℕ → R) → ((k : ℕ) → k ≤ m → a k ≡ c k) → falling m a ≡ falling m c
  falling_cong zero a c h = h 0 (omega arith)
  falling_cong (suc m) a c h = ap₂ (λ x y. x + num (suc m) * y) (h 0 (omega arith))
      (falling_cong m (λ k. a (suc k)) (λ k. c (suc k)) (λ k l. h (suc k) (omega arith)))

  falling_add : (m : ℕ) (a c : ℕ → R) → falling m (λ k. a k + c k) ≡ falling m a + falling m c
  falling_add zero a c = refl
  falling_add (suc m) a c =
      ap (λ x. a 0 + c 0 + num (suc m) * x) (falling_add m (λ k. a (suc k)) (λ k. c (suc k)))
      ∙ round (a 0) (c 0) (num (suc m)) (falling m (λ k. a (suc k))) (falling m (λ k. c (suc k)))
    where
      round : (a c n x y : R) → a + c + n * (x + y) ≡ a + n * x + (c + n * y)
      round a c n x y = by_ring 𝓡 (a ∷ c ∷ n ∷ x ∷ y ∷ []) (search quote depth 20) (search quote depth 20) refl

  -- one place on
  pub falling_next : (m : ℕ) (c : ℕ → R) → falling (suc m) c ≡ falling m (λ k. c k + num (suc k) * c (suc k))
  falling_next zero c = refl
  falling_next (suc m) c =
      sym (ap (λ x. c 0 + num 1 * c 1 + num (suc m) * x)
      (falling_cong m (λ k. c (suc k) + num (suc (suc k)) * c (suc (suc k)))
      (λ k. c (suc k) + num (suc k) * c (suc (suc k)) + c (suc (suc k)))
      (λ k l. split (c (suc k)) (num (suc k)) (c (suc (suc k))))
      ∙ falling_add m (λ k. c (suc k) + num (suc k) * c (suc (suc k))) (λ k. c (suc (suc k)))
      ∙ ap (λ x. x + falling m (λ k. c (suc (suc k)))) (sym (falling_next m (λ k. c (suc k)))))
      ∙ round (c 0) (c 1) (num (suc m)) (falling m (λ k. c (suc (suc k)))))
    where
      split : (a n b : R) → a + (𝟙 + n) * b ≡ a + n * b + b
      split a n b = by_ring 𝓡 (a ∷ n ∷ b ∷ []) (search quote depth 20) (search quote depth 20) refl

      round : (a b n x : R) → a + (𝟙 + 𝟘) * b + n * (b + n * x + x) ≡ a + (𝟙 + n) * (b + n * x)
      round a b n x = by_ring 𝓡 (a ∷ b ∷ n ∷ x ∷ []) (search quote depth 20) (search quote depth 20) refl

  -- the k-th divided difference at i, …, i + k
  abbrev pub diff : (ℕ → R) → (ℕ → R) → ℕ → ℕ → R
  diff inv y zero i = y i
  diff inv y (suc k) i = inv (suc k) * (diff inv y k (suc i) + (- diff inv y k i))

  -- x + (X - j) f
  abbrev pub grow : ℕ → R → (ℕ → R) → ℕ → R
  grow j x f zero = x + (- (num j * f 0))
  grow j x f (suc k) = f k + (- (num j * f (suc k)))

  abbrev pub nest : ℕ → ℕ → (ℕ → R) → ℕ → R
  nest zero j c = λ k. 𝟘
  nest (suc r) j c = grow j (c 0) (nest r (suc j) (λ k. c (suc k)))

  grow_out : (j n : ℕ) (x : R) (f : ℕ → R) → ((k : ℕ) → n ≤ k → f k ≡ 𝟘) → (k : ℕ) → suc n ≤ k → grow j x f k ≡ 𝟘
  grow_out j n x f h zero l = absurd (omega arith)
  grow_out j n x f h (suc k) l = ap₂ (λ s t. s + (- (num j * t))) (h k (omega arith)) (h (suc k) (omega arith))
      ∙ ap (λ s. 𝟘 + (- s)) (mul_zero 𝓡 (num j)) ∙ add_neg 𝓡 𝟘

  pub nest_out : (r j : ℕ) (c : ℕ → R) (k : ℕ) → r ≤ k → nest r j c k ≡ 𝟘
  nest_out zero j c k l = refl
  nest_out (suc r) j c k l = grow_out j r (c 0) (nest r (suc j) (λ k. c (suc k))) (nest_out r (suc j) (λ k. c (suc k))) k l

  -- c counts below r only
  pub nest_cong : (r j : ℕ) (a c : ℕ → R) → ((k : ℕ) → k < r → a k ≡ c k) → nest r j a ≡ nest r j c
  nest_cong zero j a c h = refl
  nest_cong (suc r) j a c h =
      ap₂ (λ (x : R) (f : ℕ → R). grow j x f) (h 0 (omega arith))
      (nest_cong r (suc j) (λ k. a (suc k)) (λ k. c (suc k)) (λ k l. h (suc k) (omega arith)))

  -- one step of Horner's rule, from the top: j goes down, c stays
  pub nest_step : (r j : ℕ) (c : ℕ → R) → grow j (c j) (nest r (suc j) (λ k. c (suc j +ℕ k))) ≡ nest (suc r) j (λ k. c (j +ℕ k))
  nest_step r j c = ap₂ (λ (x : R) (f : ℕ → R). grow j x f) (ap c (none j)) (nest_cong r (suc j) (λ k. c (suc j +ℕ k)) (λ k. c (j +ℕ suc k))
      (λ k l. ap c (over j k)))
    where
      none : (j : ℕ) → j ≡ j +ℕ 0
      none j = omega arith

      over : (j k : ℕ) → suc j +ℕ k ≡ j +ℕ suc k
      over j k = omega arith

  pub ev_grow : (n j : ℕ) (z x : R) (f : ℕ → R) → ((k : ℕ) → n ≤ k → f k ≡ 𝟘)
      → ev 𝓡 (suc n) z (grow j x f) ≡ x + (z + (- num j)) * ev 𝓡 n z f
  ev_grow n j z x f h =
      ap (λ s. x + (- (num j * f 0)) + z * s)
      (ap (ev 𝓡 n z) (fun_ext (λ k. order (num j) (f k) (f (suc k)))) ∙ ev_lin 𝓡 n z (- num j) (λ k. f (suc k)) f)
      ∙ round (num j) x z (f 0) (ev 𝓡 n z (λ k. f (suc k))) (ev 𝓡 n z f)
      ∙ ap (λ s. x + z * ev 𝓡 n z f + (- (num j * s))) (ev_more 𝓡 n (suc n) z f (omega arith) h)
      ∙ again (num j) x z (ev 𝓡 n z f)
    where
      order : (n a b : R) → a + (- (n * b)) ≡ (- n) * b + a
      order n a b = by_ring 𝓡 (n ∷ a ∷ b ∷ []) (search quote depth 20) (search quote depth 20) refl

      round : (n x z a s t : R) → x + (- (n * a)) + z * ((- n) * s + t) ≡ x + z * t + (- (n * (a + z * s)))
      round n x z a s t = by_ring 𝓡 (n ∷ x ∷ z ∷ a ∷ s ∷ t ∷ []) (search quote depth 20) (search quote depth 20) refl

      again : (n x z t : R) → x + z * t + (- (n * t)) ≡ x + (z + (- n)) * t
      again n x z t = by_ring 𝓡 (n ∷ x ∷ z ∷ t ∷ []) (search quote depth 20) (search quote depth 20) refl

  -- the value of the nested form at j + m
  pub ev_nest : (r j m M : ℕ) (c : ℕ → R) → j +ℕ m ≡ M → m < r → ev 𝓡 r (num M) (nest r j c) ≡ falling m c
  ev_nest zero j m M c h l = absurd (omega arith)
  ev_nest (suc r) j zero M c h l =
      ev_grow r j (num M) (c 0) (nest r (suc j) (λ k. c (suc k))) (nest_out r (suc j) (λ k. c (suc k)))
      ∙ ap (λ x. c 0 + x * ev 𝓡 r (num M) (nest r (suc j) (λ k. c (suc k)))) (num_sub j 0 M h)
      ∙ ap (λ x. c 0 + x) (zero_mul 𝓡 _) ∙ add_zero 𝓡 (c 0)
  ev_nest (suc r) j (suc m) M c h l =
      ev_grow r j (num M) (c 0) (nest r (suc j) (λ k. c (suc k))) (nest_out r (suc j) (λ k. c (suc k)))
      ∙ ap₂ (λ x y. c 0 + x * y) (num_sub j (suc m) M h) (ev_nest r (suc j) m M (λ k. c (suc k)) (omega arith) (omega arith))

  module _ (b : ℕ) (inv : ℕ → R) (unit : (k : ℕ) → 1 ≤ k → k ≤ b → inv k * num k ≡ 𝟙) where
    -- the differences are the differences
    diff_next : (y : ℕ → R) (k i : ℕ) → suc k ≤ b → diff inv y k (suc i) ≡ diff inv y k i + num (suc k) * diff inv y (suc k) i
    diff_next y k i l = round (inv (suc k)) (num (suc k)) (diff inv y k (suc i)) (diff inv y k i) (unit (suc k) (omega arith) l)
      where
        round : (s n x z : R) → s * n ≡ 𝟙 → x ≡ z + n * (s * (x + (- z)))
        round s n x z h = sym (one s n x z ∙ ap (λ t. z + t * (x + (- z))) h ∙ two x z)
          where
            one : (s n x z : R) → z + n * (s * (x + (- z))) ≡ z + s * n * (x + (- z))
            one s n x z = by_ring 𝓡 (s ∷ n ∷ x ∷ z ∷ []) (search quote depth 20) (search quote depth 20) refl

            two : (x z : R) → z + 𝟙 * (x + (- z)) ≡ x
            two x z = by_ring 𝓡 (x ∷ z ∷ []) (search quote depth 20) (search quote depth 20) refl

    -- Newton's formula at the points themselves
    pub newton_at : (y : ℕ → R) (m i M : ℕ) → i +ℕ m ≡ M → M ≤ b → falling m (λ k. diff inv y k i) ≡ y M
    newton_at y zero i M h l = ap y (omega arith)
    newton_at y (suc m) i M h l =
        falling_next m (λ k. diff inv y k i)
        ∙ falling_cong m (λ k. diff inv y k i + num (suc k) * diff inv y (suc k) i) (λ k. diff inv y k (suc i))
        (λ k p. sym (diff_next y k i (omega arith)))
        ∙ newton_at y m (suc i) M (omega arith) l

    -- THE NESTED FORM OF THE DIFFERENCES HAS THE VALUES y at 0, …, b
    pub newton_values : (y : ℕ → R) (i : ℕ) → i ≤ b → ev 𝓡 (suc b) (num i) (nest (suc b) 0 (λ k. diff inv y k 0)) ≡ y i
    newton_values y i l = ev_nest (suc b) 0 i i (λ k. diff inv y k 0) (zero_plus i) (omega arith) ∙ newton_at y i 0 i (zero_plus i) l
      where
        zero_plus : (i : ℕ) → 0 +ℕ i ≡ i
        zero_plus i = omega arith

    -- NEWTON'S DIFFERENCES GIVE THE COEFFICIENTS
    pub newton : (f : ℕ → R) (y : ℕ → R) → ((i : ℕ) → i ≤ b → ev 𝓡 (suc b) (num i) f ≡ y i)
        → (k : ℕ) → k ≤ b → nest (suc b) 0 (λ k. diff inv y k 0) k ≡ f k
    newton f y h k l = same_values 𝓡 (suc b) num (nest (suc b) 0 (λ k. diff inv y k 0)) f
        (λ i p. newton_values y i (omega arith) ∙ sym (h i (omega arith)))
        (λ i j p q. record {
          i = inv (j -ℕ i);
          one = ap (λ x. inv (j -ℕ i) * x) (num_sub i (j -ℕ i) j (omega arith)) ∙ unit (j -ℕ i) (omega arith) (omega arith);
        }) k (omega arith)

  -- the array after k passes
  pub record Stage (b : ℕ) (inv y : ℕ → R) (k : ℕ) (c : ℕ → R) : Type 0 where
    pub done : (i : ℕ) → i ≤ k → i ≤ b → c i ≡ diff inv y i 0
    pub going : (i j : ℕ) → k +ℕ j ≡ i → i ≤ b → c i ≡ diff inv y k j

  pub stage_first : (b : ℕ) (inv y c : ℕ → R) → ((i : ℕ) → i ≤ b → c i ≡ y i) → Stage b inv y 0 c
  stage_first b inv y c h = record { done = low; going = λ i j e l. h i l ∙ ap y (omega arith) }
    where
      low : (i : ℕ) → i ≤ 0 → i ≤ b → c i ≡ diff inv y i 0
      low zero l p = h 0 p
      low (suc i) l p = absurd (omega arith)

  -- one pass: the places up to k stay, every place above takes its difference with the old word before it
  pub stage_next : (b : ℕ) (inv y c c' : ℕ → R) (k : ℕ) → Stage b inv y k c → ((i : ℕ) → i ≤ k → c' i ≡ c i)
      → ((i : ℕ) → k ≤ i → suc i ≤ b → c' (suc i) ≡ inv (suc k) * (c (suc i) + (- c i))) → Stage b inv y (suc k) c'
  stage_next b inv y c c' k s same new = record { done = λ i l p. low i l p (dec_lt k i); going = high }
    where
      high : (i j : ℕ) → suc k +ℕ j ≡ i → i ≤ b → c' i ≡ diff inv y (suc k) j
      high zero j h p = absurd (omega arith)
      high (suc i) j h p = new i (omega arith) p ∙ ap₂ (λ u v. inv (suc k) * (u + (- v))) (s.going (suc i) (suc j) (omega arith) p)
          (s.going i j (omega arith) (omega arith))

      low : (i : ℕ) → i ≤ suc k → i ≤ b → Dec (k < i) → c' i ≡ diff inv y i 0
      low i l p (no h) = same i (omega arith) ∙ s.done i (omega arith) p
      low i l p (yes h) = let e : suc k ≡ i = omega arith in high i 0 (omega arith) p ∙ ap (λ (t : ℕ). diff inv y t 0) e

  -- after b passes
  pub stage_last : (b : ℕ) (inv y c : ℕ → R) → Stage b inv y b c → (i : ℕ) → i ≤ b → c i ≡ diff inv y i 0
  stage_last b inv y c s i l = s.done i l l
