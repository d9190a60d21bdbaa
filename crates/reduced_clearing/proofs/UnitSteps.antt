-- The unit factor of B is taken out: B is monic of degree s, and its multiplier is over the unit. Together with the content this is what
-- the clearing promises.
--
--   unit-…, monic-…, taken-…    the unit factor alone
--   both-…, last-…              the content and then the unit factor
--   cleared-…                   the same, as the clearing promises it
--   monics, units, moduli, contents    the rules of `take_monic`, `clear_unit`, `modulus_over` and `clear_contents`
use mathlib.Core.Path.{◌≡◌, refl, sym, ap, ap₂, subst, ◌∙◌, fun_ext}
use mathlib.Core.List.{List, []}
use mathlib.Core.Logic.{⊎_elim}
use Prim.Native.Nat.{ℕ, zero, suc, ◌+◌, ◌-◌, ◌*◌, ◌/◌, ◌%◌, ◌≤◌, ◌<◌, ◌∣◌}
use native.Mathlib.Omega.{arith}
use native.Mathlib.Nat.{div-one, mul-one, mul_assoc, mul-pos, dvd_trans, dvd-mul_left, dvd-mul_right, le_of_dvd, add-zero, pos_of_ne-zero}
use borrow.Author.Rules.{rules}
use lib.ListN.{length, get_or}
use Rattle.definitions.specs.Residues.{IsUnit, IsNilpotent, Coprime}
use Rattle.definitions.specs.Polynomials.{coef, constant}
use Rattle.definitions.specs.Resultants.{Reduced}
use Rattle.law_polynomials.specs.ReachedSteps.{coef_beyond}
use Rattle.windows.specs.Window.{piece, Moved, second, Content, Below, Around, Apart, Kept}
use Rattle.windows.proofs.Leaf.{lt_or_le, piece_at, piece_over, piece_same, piece_length}
use Rattle.windows.proofs.Lift.{moved_around}
use Rattle.window_factor.specs.Factors.{SplitOf, LeadingUnit, AllNilpotents}
use Rattle.law_multipliers.specs.Multipliers.{HasMultiplier, Completes, multiplier_unit, multiplier_completes, completes_same}
use Rattle.law_multipliers.specs.Multipliers.{inverse_of_negated}
use Rattle.law_multipliers.specs.Reductions.{reduced_unit_second, reduced_unity}
use Rattle.reduced_products.specs.Products.{MonicAtZero}
use Rattle.reduced_units.specs.States.{Multiplier, Stage, StageAt, Solved, Splitter, Change, UnitCleared}
use Rattle.reduced_units.specs.Factorings.{UnitTaken}
use Rattle.reduced_units.specs.declared.Places.{Places}
use Rattle.reduced_clearing.specs.declared.Clearing.{Clearing}
use Rattle.reduced_clearing.specs.declared.Clearing.TheVariants.{Done, Parts, Next}
use Rattle.reduced_clearing.specs.Clearings.{ContentTaken, UnitAsked, MonicAsked, UnitLast, UnitNext, UnitClears, Clears}
use Rattle.reduced_units.proofs.Regions.{multiplier_more, kept_around, kept_trans, kept_piece, multiplier_short}
use Rattle.reduced_clearing.proofs.ContentSteps.{part, part_is, none_solved, none_kept, content_positive}
use Rattle.reduced_clearing.proofs.ContentSteps.{content_quotient, content_asked, content_whole, content_stage}
use Rattle.reduced_clearing.proofs.ContentSteps.{content_change, content_kept, content_primitive}

-- the place of a coefficient of B
shorter_than : (ν s i p a : ℕ) (w : List ℕ) → p + a ≤ length w → LeadingUnit ν s i (piece w p a) → s < a
shorter_than ν s i p a w h x = omega (arith, x.place, piece_length w p a h)

module _ (n ν t pa a pb al be l s r : ℕ) (w w' : List ℕ) (st : Stage n ν t pa a pb a al be l w) (shorter : s < a)
    (ut : UnitTaken n ν t pb a be s l r w w') where
  long : 8 * (t + 1) ≤ length w
  long = omega (arith, st.room)

  unit_kept : Kept (t + 1) w w'
  unit_kept = record {
    same = ut.same;
    low = λ k h. ut.at k (omega arith) (λ i q e. omega (arith, st.places.b_low))
        (λ i q e. omega (arith, st.places.be_low));
  }

  word_a : (k : ℕ) → k < a + 1 → get_or w' (pa + k) 0 ≡ get_or w (pa + k) 0
  word_a k h = ut.at (pa + k) (omega (arith, st.within, st.places.a_high))
      (λ i q e. st.places.polynomials.ok k i (omega (arith, st.within)) (omega (arith, st.within)) e)
      (λ i q e. omega (arith, st.within, st.places.a_high, st.places.be_low))

  word_al : (k : ℕ) → k < 2 * (t + 1) → get_or w' (al + k) 0 ≡ get_or w (al + k) 0
  word_al k h = ut.at (al + k) (omega (arith, st.places.al_high)) (λ i q e. omega
      (arith, st.within, st.places.b_high, st.places.al_low)) (λ i q e. st.places.multipliers.ok k i h (omega arith) e)

  same_h : piece w' 0 (t + 1) ≡ piece w 0 (t + 1)
  same_h = kept_piece unit_kept (omega (arith, long))

  same_a : piece w' pa (a + 1) ≡ piece w pa (a + 1)
  same_a = piece_same w w' pa (a + 1) (omega (arith, long, st.within, st.places.a_high)) ut.same word_a

  same_al : piece w' al (2 * (t + 1)) ≡ piece w al (2 * (t + 1))
  same_al = piece_same w w' al (2 * (t + 1)) (omega (arith, long, st.places.al_high)) ut.same word_al

  unit_stage : Stage n ν t pa a pb (s + 1) al be r w'
  unit_stage = record {
    positive = st.positive;
    above = st.above;
    divides = st.divides;
    degree = st.degree;
    within = st.within;
    some = omega (arith, st.some, ut.longer);
    most = ut.most;
    room = omega (arith, st.room, ut.same);
    places = st.places;
    monic = record {
      lead = unit_kept.low t (omega arith) ∙ st.monic.lead;
      below = record { at = λ k h. subst (λ (x : ℕ). x < n) (sym (unit_kept.low (0 + k) (omega arith))) (st.monic.below.at k h) };
    };
    first = record { at = λ k h. subst (λ (x : ℕ). x < ν) (sym (word_a k h)) (st.first.at k h) };
    lead = subst (IsUnit ν) (sym (word_a a (omega arith))) st.lead;
    second = ut.below;
    alpha = multiplier_more r ut.longer (record {
      below = record { at = λ k h. subst (λ (x : ℕ). x < n) (sym (word_al k h)) (st.alpha.below.at k h) };
      zero = λ k h b. word_al k b ∙ st.alpha.zero k h b;
    });
    beta = ut.multiplier;
  }

  unit_reduced : (D : ℕ) → Reduced ν (piece w' pa (a + 1)) (piece w' pb (s + 1)) D → Reduced ν (piece w pa (a + 1)) (piece w pb a) D
  unit_reduced D x =
      let i = inverse_of_negated ν (omega (arith, st.above)) ut.u ut.j ut.inverse in
      reduced_unit_second ν (omega (arith, st.above)) (piece w pa (a + 1)) (piece w pb a) ut.u i.0 (piece w' pb (s + 1)) D
      ut.equation i.1
      (subst (λ (f : List ℕ). Reduced ν f (piece w' pb (s + 1)) D) same_a x)

  unit_second : (g : List ℕ) (m : ℕ) → 1 ≤ m → n ≡ m * ν → HasMultiplier n m (piece w 0 (t + 1)) g (piece w be (2 * (t + 1))) (piece w pb a)
      → HasMultiplier n m (piece w 0 (t + 1)) g (piece w' be (2 * (t + 1))) (piece w' pb (s + 1))
  unit_second g m p e x =
      multiplier_unit n m ν p (omega (arith, st.above)) e (piece w 0 (t + 1)) g [] (piece w be (2 * (t + 1))) (piece w' be (2 * (t + 1)))
      ut.j ut.u (piece w' pb (s + 1)) (piece w pb a)
      (λ k. coef_beyond [] k (omega arith)) ut.taken ut.equation ut.inverse x

-- ---- the content, and then the unit factor

module _ (n ν t pa a pb al be l c s r : ℕ) (w w₁ w₂ : List ℕ) (st : Stage n ν t pa a pb a al be l w) (ct : Content ν (part w pb a) c)
    (ne : c ≡ ν → ⊥)
    (tk : ContentTaken n (ν / c) c t pa a pb al w w₁) (shorter : s < a) (ut : UnitTaken n (ν / c) t pb a be s l r w₁ w₂) where
  stage₁ : Stage n (ν / c) t pa a pb a al be l w₁
  stage₁ = content_stage n ν t pa a pb al be l c w st ct ne w₁ tk

  change₁ : Change n ν (ν / c) c t pa a pb a a al be w w₁
  change₁ = content_change n ν t pa a pb al be l c w st ct ne w₁ tk

  kept₁ : Kept (t + 1) w w₁
  kept₁ = content_kept n ν t pa a pb al be l c w st ct ne w₁ tk

  c_pos : 0 < c
  c_pos = content_positive n ν t pa a pb al be l c w st ct

  same_h₁ : piece w₁ 0 (t + 1) ≡ piece w 0 (t + 1)
  same_h₁ = kept_piece kept₁ (omega (arith, st.room))

  modulus : (m : ℕ) → n ≡ m * ν → n ≡ m * c * (ν / c)
  modulus m e = e ∙ ap (λ (y : ℕ). m * y) (content_whole n ν t pa a pb al be l c w st ct) ∙ sym (mul_assoc m c (ν / c))

  both_first : (g : List ℕ) (m : ℕ) → 1 ≤ m → n ≡ m * ν
      → HasMultiplier n m (piece w 0 (t + 1)) g (piece w al (2 * (t + 1))) (piece w pa (a + 1))
      → HasMultiplier n (m * c) (piece w 0 (t + 1)) g (piece w₂ al (2 * (t + 1))) (piece w₂ pa (a + 1))
  both_first g m p e x =
      subst (λ (f : List ℕ). HasMultiplier n (m * c) (piece w 0 (t + 1)) g f (piece w₂ pa (a + 1)))
      (sym (same_al n (ν / c) t pa a pb al be l s r w₁ w₂ stage₁ shorter ut))
      (subst (λ (f : List ℕ). HasMultiplier n (m * c) (piece w 0 (t + 1)) g (piece w₁ al (2 * (t + 1))) f)
      (sym (same_a n (ν / c) t pa a pb al be l s r w₁ w₂ stage₁ shorter ut)) (change₁.first g m p e x))

  both_second : (g : List ℕ) (m : ℕ) → 1 ≤ m → n ≡ m * ν → HasMultiplier n m (piece w 0 (t + 1)) g (piece w be (2 * (t + 1))) (piece w pb a)
      → HasMultiplier n (m * c) (piece w 0 (t + 1)) g (piece w₂ be (2 * (t + 1))) (piece w₂ pb (s + 1))
  both_second g m p e x =
      subst (λ (h : List ℕ). HasMultiplier n (m * c) h g (piece w₂ be (2 * (t + 1))) (piece w₂ pb (s + 1))) same_h₁
      (unit_second n (ν / c) t pa a pb al be l s r w₁ w₂ stage₁ shorter ut g (m * c) (mul-pos p c_pos) (modulus m e)
      (subst (λ (h : List ℕ). HasMultiplier n (m * c) h g (piece w₁ be (2 * (t + 1))) (piece w₁ pb a)) (sym same_h₁)
      (change₁.second g m p e x)))

  both_reduced : (D : ℕ) → Reduced (ν / c) (piece w₂ pa (a + 1)) (piece w₂ pb (s + 1)) D → Reduced ν (piece w pa (a + 1)) (piece w pb a)
      (c * D)
  both_reduced D x = change₁.reduced D (unit_reduced n (ν / c) t pa a pb al be l s r w₁ w₂ stage₁ shorter ut D x)

  -- the monic factor has a degree
  both_cleared : 1 ≤ s → UnitCleared n ν t pa a pb al be c s r w w₂
  both_cleared d = record {
    positive = c_pos;
    degree = d;
    shorter = shorter;
    monic = ut.monic;
    stage = unit_stage n (ν / c) t pa a pb al be l s r w₁ w₂ stage₁ shorter ut;
    change = record { whole = change₁.whole; reduced = both_reduced; first = both_first; second = both_second };
  }

  -- it is 1
  module _ (none : s ≡ 0) (w₃ : List ℕ) (cp : Moved second be (t + 1) t w₂ w₃) where
    unity : (k : ℕ) → coef (piece w₂ pb (s + 1)) k ≡ constant 1 k
    unity zero = piece_at w₂ pb (s + 1) 0 (omega arith) ∙ ap (λ (x : ℕ). get_or w₂ (pb + x) 0) (sym none) ∙ ut.monic
    unity (suc k) = piece_over w₂ pb (s + 1) (suc k) (omega arith)

    found : (k : ℕ) → coef (piece w₂ be (2 * (t + 1))) k ≡ coef (piece w₃ (t + 1) t) k
    found k =
        multiplier_short ut.multiplier t ut.most (omega arith) k
        ∙ ⊎_elim (λ h. piece_at w₂ be t k h ∙ sym (piece_at w₃ (t + 1) t k h ∙ cp.mid k h))
        (λ h. piece_over w₂ be t k h ∙ sym (piece_over w₃ (t + 1) t k h)) (lt_or_le k t)

    last_solved : Solved n ν t pa a pb a al be c w w₃
    last_solved = record {
      reduced = subst (Reduced ν (piece w pa (a + 1)) (piece w pb a)) (mul-one c)
          (both_reduced 1 (reduced_unity (ν / c) (omega (arith, stage₁.above)) (piece w₂ pa (a + 1)) (piece w₂ pb (s + 1))
          (λ k. ap (λ (x : ℕ). x % (ν / c)) (unity k))));
      below = record { at = λ k h. subst (λ (x : ℕ). x < n) (sym (cp.mid k h)) (ut.multiplier.below.at k (omega arith)) };
      completes = λ g m p e x y.
          completes_same n (m * c) (piece w 0 (t + 1)) g (piece w₂ be (2 * (t + 1))) (piece w₃ (t + 1) t) found
          (multiplier_completes n (m * c) (ν / c) (mul-pos p c_pos) (omega (arith, stage₁.above)) (modulus m e) (piece w 0 (t + 1)) g
          (piece w₂ be (2 * (t + 1))) (piece w₂ pb (s + 1))
          (λ k. ap (λ (z : ℕ). z % (ν / c)) (unity k)) (both_second g m p e y));
    }

-- ---- a coefficient splits the modulus

pub split_splitter : (ν r p q : ℕ) → r ∣ ν → SplitOf r p q → Splitter ν p q
split_splitter ν r p q d x = record {
  divides₁ = dvd_trans p (subst (λ (y : ℕ). p ∣ y) x.product (dvd-mul_right p q)) d;
  divides₂ = dvd_trans q (subst (λ (y : ℕ). q ∣ y) x.product (dvd-mul_left q p)) d;
  above₁ = x.above₁;
  above₂ = x.above₂;
  coprime = x.coprime;
}

-- ---- the unit factor alone

pub monic_asked : (n ν a l s i : ℕ) (P : Places) (w : List ℕ) → UnitAsked n ν P a l w → LeadingUnit ν s i (part w P.pb a)
    → MonicAsked n ν P a l s i w
monic_asked n ν a l s i P w asked lead = record { stage = asked.stage; shorter = shorter_than ν s i P.pb a w fits at; lead = at }
  where
    at : LeadingUnit ν s i (piece w P.pb a)
    at = subst (LeadingUnit ν s i) (part_is w P.pb a) lead

    fits : P.pb + a ≤ length w
    fits = omega (arith, asked.stage.room, asked.stage.within, asked.stage.places.b_high)

module _ (n ν a l s i m : ℕ) (P : Places) (w w₂ : List ℕ) (asked : MonicAsked n ν P a l s i w)
    (ut : UnitTaken n ν P.t P.pb a P.be s l m w w₂) where
  pub taken_kept : Kept (P.t + 1) w w₂
  taken_kept = unit_kept n ν P.t P.pa a P.pb P.al P.be l s m w w₂ asked.stage asked.shorter ut

  pub taken_next : (c D : ℕ) → (s ≡ 0 → ⊥) → D ≡ c → UnitNext n ν c P a l D s m w w₂
  taken_next c D ne e = record { answer = e; degree = pos_of_ne-zero ne; shorter = asked.shorter; taken = ut }

  module _ (w₃ : List ℕ) (none : s ≡ 0) (cp : Moved second P.be (P.t + 1) P.t w₂ w₃) where
    pub taken_last : (c D : ℕ) → D ≡ c → UnitLast n ν c P a l D w w₃
    taken_last c D e = record { answer = e; s = s; m = m; w₂ = w₂; none = none; shorter = asked.shorter; taken = ut; copied = cp }

    pub taken_last_kept : Kept (P.t + 1) w w₃
    taken_last_kept = kept_trans taken_kept (kept_around (omega arith) (moved_around cp))

pub never_nilpotent : (n ν c a l D : ℕ) (P : Places) (w w' : List ℕ) → UnitAsked n ν P a l w → AllNilpotents ν (part w P.pb a)
    → UnitLast n ν c P a l D w w'
never_nilpotent n ν c a l D P w w' asked h = absurd (asked.some (subst (AllNilpotents ν) (part_is w P.pb a) h))

pub kept_same : (x : ℕ) (w : List ℕ) → Kept x w w
kept_same x w = record { same = refl; low = λ k h. refl }

-- ---- the content and the unit factor, as the clearing promises them

-- the modulus does not change where the content is 1
pub over_one : {n c : ℕ} → c ≡ 1 → n ≡ n / c
over_one {n} e = rw e (sym (div-one n))

-- ρ is the modulus of the record
module _ (n ν ρ a l c : ℕ) (P : Places) (w w₁ : List ℕ) (st : StageAt n ν P a a l w) (ct : Content ν (part w P.pb a) c)
    (ne : c ≡ ν → ⊥)
    (tk : ContentTaken n ρ c P.t P.pa a P.pb P.al w w₁) (e : ρ ≡ ν / c) where
  taken : ContentTaken n (ν / c) c P.t P.pa a P.pb P.al w w₁
  taken = subst (λ (y : ℕ). ContentTaken n y c P.t P.pa a P.pb P.al w w₁) e tk

  pub cleared_asked : UnitAsked n ρ P a l w₁
  cleared_asked = subst (λ (y : ℕ). UnitAsked n y P a l w₁) (sym e) (record {
    stage = content_stage _ _ _ _ _ _ _ _ _ _ _ st ct ne _ taken;
    some = λ h. content_primitive _ _ _ _ _ _ _ _ _ _ _ st ct ne _ taken h.at;
  })

  pub cleared_kept : (w₂ : List ℕ) → Kept (P.t + 1) w₁ w₂ → Kept (P.t + 1) w w₂
  cleared_kept w₂ k = kept_trans (content_kept _ _ _ _ _ _ _ _ _ _ _ st ct ne _ taken) k

  pub cleared : (w₂ : List ℕ) (r : Clearing ℕ) → UnitClears n ρ c P a l w₁ w₂ r → Clears n ν P a w w₂ r
  cleared w₂ r x = answer r (subst (λ (y : ℕ). UnitClears n y c P a l w₁ w₂ r) e x)
    where
      answer : (r : Clearing ℕ) → UnitClears n (ν / c) c P a l w₁ w₂ r → Clears n ν P a w w₂ r
      answer (Done D) x = subst (λ (y : ℕ). Solved n ν P.t P.pa a P.pb a P.al P.be y w w₂) (sym x.answer)
          (last_solved _ _ _ _ _ _ _ _ _ _ _ _ _ _ _ st ct ne taken x.shorter x.taken x.none _ x.copied)
      answer (Parts p q) x = split_splitter ν (ν / c) p q
          (subst (λ (y : ℕ). ν / c ∣ y) (sym (content_whole _ _ _ _ _ _ _ _ _ _ _ st ct)) (dvd-mul_left (ν / c) c)) x
      answer (Next D s m) x = subst (λ (y : ℕ). UnitCleared n ν P.t P.pa a P.pb P.al P.be y s m w w₂) (sym x.answer)
          (both_cleared _ _ _ _ _ _ _ _ _ _ _ _ _ _ _ st ct ne taken x.shorter x.taken x.degree)

pub ruleset monics = (tt, taken_kept, taken_next, taken_last, taken_last_kept)

pub ruleset units = (tt, monic_asked, never_nilpotent, kept_same)

pub ruleset moduli = (rules, over_one)

pub ruleset contents = (tt, none_solved, none_kept, content_positive, content_quotient, content_asked, cleared_asked, cleared, cleared_kept)
