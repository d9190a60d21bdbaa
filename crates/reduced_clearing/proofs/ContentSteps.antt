-- The content c of B is taken out: B over c, the multiplier of A times c, A modulo ν / c. The facts are those of the code, which reads B
-- as a part of the window.
--
--   part                         the a words from p on, as the code lends them
--   none_solved, none_kept       B is 0 modulo ν
--   content_positive, content_quotient, content_asked, content_stage, content_change, content_kept, content_primitive    it is not
use mathlib.Core.Path.{◌≡◌, refl, sym, ap, ap₂, subst, ◌∙◌, fun_ext}
use mathlib.Core.List.{List, []}
use mathlib.Core.Logic.{⊎_elim}
use Prim.Native.Nat.{ℕ, zero, suc, ◌+◌, ◌-◌, ◌*◌, ◌/◌, ◌%◌, ◌≤◌, ◌<◌, ◌∣◌}
use native.Mathlib.Omega.{arith}
use native.Mathlib.Nat.{mod-lt, mod-mod, mod-eq_of_lt, mod_self, zero-mod, mul-zero, mul-one, one-mul, mul_comm, mul_assoc, mul-pos}
use native.Mathlib.Nat.{mul-le-mul_left, mul-div_cancel', pos_of_dvd_of_pos, dvd_trans, dvd-mul_left, mul-dvd-mul_left, le_of_dvd}
use native.Mathlib.Nat.{mod-eq-zero_of_dvd, eq_of_mul-eq-mul_left, dvd-zero}
use lib.ListN.{length, get_or, take, drop}
use Rattle.definitions.specs.Residues.{IsUnit, IsNilpotent, Inverse}
use Rattle.definitions.specs.Polynomials.{coef, constant}
use Rattle.definitions.specs.Resultants.{Reduced}
use Rattle.law_numbers.specs.Congruence.{Cong, c_refl, c_sym, c_trans, c_eq, c_mod, c_mul}
use Rattle.law_numbers.specs.Nilpotents.{nilpotent_radical}
use Rattle.law_numbers.specs.Primes.{prime_of}
use Rattle.law_numbers.specs.Units.{unit_of, unit_dvd}
use Rattle.law_polynomials.specs.ReachedSteps.{Times}
use Rattle.windows.specs.Window.{piece, Moved, mulBy, quotient_by, reduced_by, zeroed, Content, Below, Around, Apart, Kept}
use Rattle.windows.proofs.Leaf.{lt_or_le, piece_at, piece_over, piece_same, piece_length, apart_at}
use Rattle.windows.proofs.Lift.{moved_around}
use Rattle.law_multipliers.specs.Multipliers.{HasMultiplier, Completes, lifted, multiplier_scaled, completes_none}
use Rattle.law_multipliers.specs.Reductions.{UnitLead, reduced_same, reduced_lead}
use Rattle.law_multipliers.proofs.ZeroSecond.{reduced_none}
use Rattle.reduced_products.specs.Products.{MonicAtZero}
use Rattle.reduced_units.specs.States.{Multiplier, Stage, StageAt, Solved, Change}
use Rattle.reduced_units.specs.declared.Places.{Places}
use Rattle.reduced_clearing.specs.Clearings.{ContentAsked, ContentTaken}
use Rattle.reduced_units.proofs.Regions.{part_piece, apart_low, apart_swap, below_apart, piece_apart, multiplier_apart, monic_apart}
use Rattle.reduced_units.proofs.Regions.{kept_around, kept_trans, kept_piece}

abbrev pub part : List ℕ → ℕ → ℕ → List ℕ
part w p a = take (p + a - p) (drop p w)

pub part_is : (w : List ℕ) (p a : ℕ) → part w p a ≡ piece w p a
part_is w p a = part_piece w p a (p + a - p) (omega arith)

-- A has a leading unit
pub unit_lead : {n ν t pa a pb c al be l : ℕ} {w : List ℕ} → Stage n ν t pa a pb c al be l w → UnitLead ν a (piece w pa (a + 1))
unit_lead {ν = ν} {pa = pa} {a = a} {w = w} st = record {
  unit = subst (IsUnit ν) (sym (piece_at w pa (a + 1) a (omega arith))) st.lead;
  above = λ k h. piece_over w pa (a + 1) k (omega arith);
}

-- every coefficient, where the words do
all_coefficients : (w : List ℕ) (p l x : ℕ) → p + l ≤ length w → ((k : ℕ) → k < length (piece w p l) → x ∣ coef (piece w p l) k) → (k : ℕ)
    → x ∣ coef (piece w p l) k
all_coefficients w p l x h d k = ⊎_elim
    (λ b. d k (omega (arith, piece_length w p l h)))
    (λ b. subst (λ (y : ℕ). x ∣ y) (sym (piece_over w p l k b)) (dvd-zero x))
    (lt_or_le k l)

-- ---- B is 0 modulo ν

module _ (n ν t pa a pb al be l c : ℕ) (w w' : List ℕ) (st : Stage n ν t pa a pb a al be l w) (of_part : Content ν (part w pb a) c)
    (whole : c ≡ ν)
    (mv : Moved zeroed (t + 1) (t + 1) t w w') where
  whole_content : Content ν (piece w pb a) ν
  whole_content = subst (Content ν (piece w pb a)) whole (subst (λ (f : List ℕ). Content ν f c) (part_is w pb a) of_part)

  pub none_kept : Kept (t + 1) w w'
  none_kept = kept_around (omega arith) (moved_around mv)

  empty : (k : ℕ) → coef (piece w' (t + 1) t) k ≡ 0
  empty k = ⊎_elim (λ h. piece_at w' (t + 1) t k h ∙ mv.mid k h) (λ h. piece_over w' (t + 1) t k h) (lt_or_le k t)

  pub none_solved : Solved n ν t pa a pb a al be ν w w'
  none_solved = record {
    reduced = reduced_none ν a (omega (arith, st.above)) st.degree (piece w pa (a + 1)) (piece w pb a) (unit_lead st)
        (λ k. mod-eq-zero_of_dvd ν (all_coefficients w pb a ν (omega (arith, st.room, st.within, st.places.b_high))
        whole_content.divides k));
    below = record { at = λ k h. subst (λ (x : ℕ). x < n) (sym (mv.mid k h)) st.positive };
    completes = λ g m p e x y. completes_none n (m * ν) st.positive (ap (λ (z : ℕ). z % n) (sym e) ∙ mod_self n) (piece w 0 (t + 1)) g
        (piece w' (t + 1) t) empty;
  }

-- ---- c is not ν

module _ (n ν t pa a pb al be l c : ℕ) (w : List ℕ) (st : Stage n ν t pa a pb a al be l w) (of_part : Content ν (part w pb a) c) where
  ct : Content ν (piece w pb a) c
  ct = subst (λ (f : List ℕ). Content ν f c) (part_is w pb a) of_part

  pub content_positive : 0 < c
  content_positive = pos_of_dvd_of_pos ct.divides_n (omega (arith, st.above))

  pub content_whole : ν ≡ c * (ν / c)
  content_whole = sym (mul-div_cancel' c ct.divides_n)

  pub content_above : (c ≡ ν → ⊥) → 2 ≤ ν / c
  content_above ne = go (ν / c) content_whole
    where
      go : (r : ℕ) → ν ≡ c * r → 2 ≤ r
      go zero e = absurd (omega (arith, st.above, mul-zero c))
      go (suc zero) e = absurd (ne (sym (e ∙ mul-one c)))
      go (suc (suc r)) e = omega arith

  -- ---- the words

  module _ (ne : c ≡ ν → ⊥) (w' : List ℕ) (tk : ContentTaken n (ν / c) c t pa a pb al w w') where
    two : 2 ≤ ν / c
    two = content_above ne

    long : 8 * (t + 1) ≤ length w
    long = omega (arith, st.room)

    scaled : Around al (2 * (t + 1)) w tk.w₁
    scaled = moved_around tk.scaled

    divided : Around pb a tk.w₁ tk.w₂
    divided = moved_around tk.divided

    reduced : Around pa (a + 1) tk.w₂ w'
    reduced = moved_around tk.reduced

    apart_ab : Apart pb a pa (a + 1)
    apart_ab = record { ok = λ i j p q e. st.places.polynomials.ok j i (omega (arith, st.within)) (omega (arith, st.within)) (sym e) }

    apart_pa_al : Apart pa (a + 1) al (2 * (t + 1))
    apart_pa_al = apart_low pa (a + 1) al (2 * (t + 1)) (omega (arith, st.within, st.places.a_high, st.places.al_low))

    apart_pb_al : Apart pb a al (2 * (t + 1))
    apart_pb_al = apart_low pb a al (2 * (t + 1)) (omega (arith, st.within, st.places.b_high, st.places.al_low))

    apart_be_al : Apart be (2 * (t + 1)) al (2 * (t + 1))
    apart_be_al = apart_swap st.places.multipliers

    apart_be_pb : Apart be (2 * (t + 1)) pb a
    apart_be_pb = apart_swap (apart_low pb a be (2 * (t + 1)) (omega (arith, st.within, st.places.b_high, st.places.be_low)))

    apart_be_pa : Apart be (2 * (t + 1)) pa (a + 1)
    apart_be_pa = apart_swap (apart_low pa (a + 1) be (2 * (t + 1)) (omega (arith, st.within, st.places.a_high, st.places.be_low)))

    -- word k of A, of B, of the multiplier of A
    word_a : (k : ℕ) → k < a + 1 → get_or w' (pa + k) 0 ≡ get_or w (pa + k) 0 % (ν / c)
    word_a k h =
        tk.reduced.mid k h
        ∙ ap (λ (x : ℕ). x % (ν / c)) (apart_at (apart_swap apart_ab) divided k h ∙ apart_at apart_pa_al scaled k h)

    word_b : (k : ℕ) → k < a → get_or w' (pb + k) 0 ≡ get_or w (pb + k) 0 / c
    word_b k h = apart_at apart_ab reduced k h ∙ tk.divided.mid k h ∙ ap (λ (x : ℕ). x / c) (apart_at apart_pb_al scaled k h)

    word_al : (k : ℕ) → k < 2 * (t + 1) → get_or w' (al + k) 0 ≡ (c * get_or w (al + k) 0) % n
    word_al k h = apart_at (apart_swap apart_pa_al) reduced k h ∙ apart_at (apart_swap apart_pb_al) divided k h ∙ tk.scaled.mid k h

    -- B is c times what it is now
    times_c : (k : ℕ) → coef (piece w pb a) k ≡ c * coef (piece w' pb a) k
    times_c k = ⊎_elim
        (λ h. piece_at w pb a k h ∙ sym (ap (λ (x : ℕ). c * x) (piece_at w' pb a k h ∙ word_b k h) ∙ mul-div_cancel' c (divides k h)))
        (λ h. piece_over w pb a k h ∙ sym (ap (λ (x : ℕ). c * x) (piece_over w' pb a k h) ∙ mul-zero c))
        (lt_or_le k a)
      where
        divides : (k : ℕ) → k < a → c ∣ get_or w (pb + k) 0
        divides k h =
            subst (λ (x : ℕ). c ∣ x) (piece_at w pb a k h)
            (ct.divides k (omega (arith, piece_length w pb a (omega (arith, long, st.within, st.places.b_high)))))

    -- and A is what it was, modulo ν / c
    same_a : (k : ℕ) → coef (piece w pa (a + 1)) k % (ν / c) ≡ coef (piece w' pa (a + 1)) k % (ν / c)
    same_a k = ⊎_elim
        (λ h. ap (λ (x : ℕ). x % (ν / c)) (piece_at w pa (a + 1) k h) ∙ sym
        (ap (λ (x : ℕ). x % (ν / c)) (piece_at w' pa (a + 1) k h ∙ word_a k h) ∙ mod-mod _ (ν / c)))
        (λ h. ap (λ (x : ℕ). x % (ν / c)) (piece_over w pa (a + 1) k h ∙ sym (piece_over w' pa (a + 1) k h)))
        (lt_or_le k (a + 1))

    times_al : (k : ℕ) → coef (piece w' al (2 * (t + 1))) k % n ≡ (c * coef (piece w al (2 * (t + 1))) k) % n
    times_al k = ⊎_elim
        (λ h. ap (λ (x : ℕ). x % n) (piece_at w' al (2 * (t + 1)) k h ∙ word_al k h) ∙ mod-mod _ n ∙ ap (λ (x : ℕ). (c * x) % n)
        (sym (piece_at w al (2 * (t + 1)) k h)))
        (λ h. ap (λ (x : ℕ). x % n) (piece_over w' al (2 * (t + 1)) k h ∙ sym (mul-zero c)) ∙ ap (λ (x : ℕ). (c * x) % n)
        (sym (piece_over w al (2 * (t + 1)) k h)))
        (lt_or_le k (2 * (t + 1)))

    pub content_kept : Kept (t + 1) w w'
    content_kept =
        kept_trans (kept_around (omega (arith, st.places.al_low)) scaled)
        (kept_trans (kept_around (omega (arith, st.places.b_low)) divided) (kept_around (omega (arith, st.places.a_low)) reduced))

    beta' : Multiplier n t be l w'
    beta' = multiplier_apart apart_be_pa reduced (multiplier_apart apart_be_pb divided (multiplier_apart apart_be_al scaled st.beta))

    pub content_stage : Stage n (ν / c) t pa a pb a al be l w'
    content_stage = record {
      positive = st.positive;
      above = two;
      divides = dvd_trans (ν / c) (subst (λ (x : ℕ). ν / c ∣ x) (sym content_whole) (dvd-mul_left (ν / c) c)) st.divides;
      degree = st.degree;
      within = st.within;
      some = st.some;
      most = st.most;
      room = omega (arith, st.room, content_kept.same);
      places = st.places;
      monic = monic_apart (omega (arith, st.places.a_low)) reduced (monic_apart (omega (arith, st.places.b_low)) divided
          (monic_apart (omega (arith, st.places.al_low)) scaled st.monic));
      first = record { at = λ k h. subst (λ (x : ℕ). x < ν / c) (sym (word_a k h)) (mod-lt _ (omega (arith, two))) };
      lead = subst (IsUnit (ν / c)) (sym (word_a a (omega arith))) (unit_mod (get_or w (pa + a) 0) st.lead);
      second = record { at = λ k h. smaller k h };
      alpha = record {
        below = record { at = λ k h. subst (λ (x : ℕ). x < n) (sym (word_al k h)) (mod-lt _ st.positive) };
        zero = λ k h b. word_al k b ∙ ap (λ (x : ℕ). (c * x) % n) (st.alpha.zero k h b) ∙ ap (λ (x : ℕ). x % n) (mul-zero c) ∙ zero-mod n;
      };
      beta = beta';
    }
      where
        unit_mod : (x : ℕ) → IsUnit ν x → IsUnit (ν / c) (x % (ν / c))
        unit_mod x u =
            let v = unit_dvd (omega (arith, two)) (subst (λ (y : ℕ). ν / c ∣ y) (sym content_whole) (dvd-mul_left (ν / c) c)) u in
            unit_of v.inverse (omega (arith, two))
            (c_trans (c_mul (c_refl {a = v.inverse}) (c_mod x)) (c_trans (c_eq (mul_comm v.inverse x)) (record { same = v.is.one })))

        smaller : (k : ℕ) → k < a → get_or w' (pb + k) 0 < ν / c
        smaller k h = less c (get_or w' (pb + k) 0) (ν / c) content_positive
            (subst (λ (x : ℕ). x < c * (ν / c)) (sym (piece_at w pb a k h) ∙ times_c k ∙ ap (λ (x : ℕ). c * x) (piece_at w' pb a k h))
            (subst (λ (x : ℕ). get_or w (pb + k) 0 < x) content_whole (st.second.at k h)))
          where
            less : (c x y : ℕ) → 0 < c → c * x < c * y → x < y
            less c x y p q = ⊎_elim (λ h. h) (λ h. absurd (omega (arith, mul-le-mul_left c h))) (lt_or_le x y)

    -- the constants, and the multipliers
    times : Times (c * (ν / c)) c (piece w pb a) (piece w' pb a)
    times = record { at = λ k. ap (λ (x : ℕ). x % (c * (ν / c))) (times_c k) }

    pub content_change : Change n ν (ν / c) c t pa a pb a a al be w w'
    content_change = record {
      whole = content_whole;
      reduced = λ D x. subst (λ (y : ℕ). Reduced y (piece w pa (a + 1)) (piece w pb a) (c * D)) (sym content_whole)
          (reduced_lead c (ν / c) a content_positive (omega (arith, two)) st.degree (piece w pa (a + 1))
          (subst (λ (y : ℕ). UnitLead y a (piece w pa (a + 1))) content_whole (unit_lead st))
          (piece w pb a) (piece w' pb a) D times (reduced_same (ν / c) (omega (arith, two)) (piece w pa (a + 1)) (piece w' pa (a + 1))
          (piece w' pb a) D same_a x));
      first = λ g m p e x. multiplier_scaled n c m (m * c) st.positive (piece w 0 (t + 1)) g (piece w al (2 * (t + 1)))
          (piece w' al (2 * (t + 1))) (piece w pa (a + 1)) (piece w' pa (a + 1))
          times_al (λ k. sym (ap (λ (y : ℕ). y % n) (round c m (coef (piece w pa (a + 1)) k)) ∙ lifted n (m * c) (ν / c) _ _
          (mul-pos p content_positive) (omega (arith, two)) (modulus m e) (same_a k))) x;
      second = λ g m p e x. multiplier_scaled n 1 m (m * c) st.positive (piece w 0 (t + 1)) g (piece w be (2 * (t + 1)))
          (piece w' be (2 * (t + 1))) (piece w pb a) (piece w' pb a)
          (λ k. ap (λ (y : ℕ). y % n) (ap (λ (f : List ℕ). coef f k) same_be ∙ sym (one-mul (coef (piece w be (2 * (t + 1))) k))))
          (λ k. ap (λ (y : ℕ). y % n) (mul_assoc m c (coef (piece w' pb a) k) ∙ ap (λ (y : ℕ). m * y) (sym (times_c k)) ∙ sym
          (one-mul _))) x;
    }
      where
        round : (c m x : ℕ) → c * (m * x) ≡ m * c * x
        round c m x = omega arith

        modulus : (m : ℕ) → n ≡ m * ν → n ≡ m * c * (ν / c)
        modulus m e = e ∙ ap (λ (y : ℕ). m * y) content_whole ∙ sym (mul_assoc m c (ν / c))

        same_be : piece w' be (2 * (t + 1)) ≡ piece w be (2 * (t + 1))
        same_be =
            piece_apart apart_be_pa reduced (omega (arith, long, st.places.be_high, scaled.same, divided.same))
            ∙ piece_apart apart_be_pb divided (omega (arith, long, st.places.be_high, scaled.same)) ∙ piece_apart apart_be_al scaled
            (omega (arith, long, st.places.be_high))

    -- nothing is left in common
    pub content_primitive : ((k : ℕ) → IsNilpotent (ν / c) (coef (piece w' pb a) k)) → ⊥
    content_primitive nil =
        let p = prime_of (ν / c) (omega (arith, two)) in
        let d : c * p.p ∣ c =
        ct.greatest (c * p.p) (subst (λ (x : ℕ). c * p.p ∣ x) (sym content_whole) (mul-dvd-mul_left p.p c p.divides))
        (λ k h. subst (λ (x : ℕ). c * p.p ∣ x) (sym (times_c k)) (mul-dvd-mul_left p.p c
        ((nilpotent_radical (nil k)).at p.p p.prime p.divides))) in
        big c p.p content_positive p.prime.above (le_of_dvd content_positive d)
      where
        big : (c p : ℕ) → 0 < c → 1 < p → c * p ≤ c → ⊥
        big c p h q l = let z : c * 2 ≤ c * p = mul-le-mul_left c q in omega arith

pub content_quotient : (n ν t pa a pb al be l c : ℕ) (w : List ℕ) → Stage n ν t pa a pb a al be l w → Content ν (part w pb a) c
    → (c ≡ ν → ⊥) → 1 ≤ ν / c
content_quotient n ν t pa a pb al be l c w st ct ne = omega (arith, content_above _ _ _ _ _ _ _ _ _ _ _ st ct ne)

pub content_asked : (n ν ρ : ℕ) (p : Places) (a l c : ℕ) (w : List ℕ) → StageAt n ν p a a l w → Content ν (part w p.pb a) c → (c ≡ ν → ⊥)
    → ρ ≡ ν / c → ContentAsked n ρ c p a w
content_asked n ν ρ p a l c w st ct ne e = record {
  positive = st.positive;
  content = content_positive _ _ _ _ _ _ _ _ _ _ _ st ct;
  quotient = subst (λ (y : ℕ). 1 ≤ y) (sym e) (content_quotient _ _ _ _ _ _ _ _ _ _ _ st ct ne);
  multiplier = omega (arith, st.room, st.places.al_high);
  second = omega (arith, st.room, st.within, st.places.b_high);
  first = omega (arith, st.room, st.within, st.places.a_high);
}
