-- A step of the division stage: A = q B + R modulo ν, and q times the multiplier of B is taken from that of A. Then B and R, with their
-- multipliers, stand as A and B did, and what is found of them tells what is asked of A and B. The rules take what the calls in the stage
-- promise, as the code hands it over, for words of any width.
--
--   step_sizes, step_pair, step_room, step_factors, step_stage    what the division, the product and the content stage ask
--   step_answers, step_kept                                       what the stage promises
--   steps                                                         the rules
use mathlib.Core.Path.{◌≡◌, refl, sym, ap, ap₂, subst, ◌∙◌, fun_ext}
use mathlib.Core.List.{List, []}
use mathlib.Core.Logic.{⊎_elim}
use Prim.Native.Nat.{ℕ, zero, suc, ◌+◌, ◌-◌, ◌*◌, ◌%◌, ◌≤◌, ◌<◌, ◌∣◌}
use native.Mathlib.Omega.{arith}
use native.Mathlib.Nat.{le_of_dvd, le_of_lt, add_assoc, mul-pos}
use lib.ListN.{length, get_or}
use Rattle.std.specs.Prelude.{Result, Ok, Err}
use Rattle.definitions.specs.Residues.{IsUnit, K}
use Rattle.definitions.specs.Polynomials.{coef, convolve, Divided}
use Rattle.definitions.specs.Resultants.{Reduced}
use Rattle.law_numbers.specs.Units.{unit_of}
use Rattle.windows.specs.Window.{piece, Below, Around, Apart, Kept}
use Rattle.windows.proofs.Leaf.{lt_or_le, piece_at, piece_over, piece_same, apart_at}
use Rattle.window_division.specs.Remainders.{DivisionLengthsAsked, Pair, Quotient}
use Rattle.law_multipliers.specs.Multipliers.{HasMultiplier, Completes, Taken, multiplier_taken}
use Rattle.law_multipliers.specs.Reductions.{reduced_step}
use Rattle.reduced_products.specs.Products.{ProductAsked, Factors, FactorsModulo, MonicAtZero, TakenFrom}
use Rattle.reduced_units.specs.States.{Multiplier, StageAt, Solved}
use Rattle.reduced_units.specs.declared.Places.{Places}
use Rattle.reduced_stages.specs.StageAnswers.{DivisionAsked, StageAnswer}
use Rattle.residue.specs.declared.Split.{Split}
use Rattle.reduced_units.proofs.Regions.{apart_low, apart_swap, below_apart, piece_apart, kept_around, kept_trans, kept_piece}
use Rattle.reduced_units.proofs.Regions.{multiplier_apart, multiplier_more, multiplier_short, monic_apart, places_swap}

-- A and B have changed places
abbrev pub exchanged : Places → Places
exchanged p = record { t = p.t; pa = p.pb; pb = p.pa; al = p.be; be = p.al }

module _ {n ν a b i l : ℕ} {p : Places} {w : List ℕ} (asked : DivisionAsked n ν p a b i l w) where
  abbrev t : ℕ
  t = p.t

  abbrev pa : ℕ
  pa = p.pa

  abbrev pb : ℕ
  pb = p.pb

  abbrev al : ℕ
  al = p.al

  abbrev be : ℕ
  be = p.be

  st : StageAt n ν p a (b + 1) l w
  st = asked.stage

  low : b < a
  low = asked.shorter

  one : 1 ≤ b
  one = asked.degree

  -- what the division asks
  pub step_sizes : DivisionLengthsAsked ν pb b pa a w
  step_sizes = record {
    modulus = omega (arith, st.above);
    degree = one;
    near = omega (arith, low);
    divisor = omega (arith, st.room, st.places.b_high, st.within, low);
    dividend = omega (arith, st.room, st.places.a_high, st.within);
  }

  pub step_pair : Pair ν pb b pa a w
  step_pair = record {
    first = st.second;
    second = st.first;
    apart = record { ok = λ i j p q e. st.places.polynomials.ok j i (omega (arith, st.within)) (omega (arith, st.within)) (sym e) };
  }

  small : ν ≤ n
  small = le_of_dvd st.positive st.divides

  module _ {w₁ : List ℕ} (dv : Quotient ν pb b pa a w w₁) where
    apart_h : t + 1 ≤ pa
    apart_h = omega (arith, st.places.a_low)

    apart_al : Apart al (2 * (t + 1)) pa (a + 1)
    apart_al = apart_swap (apart_low pa (a + 1) al (2 * (t + 1)) (omega (arith, st.within, st.places.a_high, st.places.al_low)))

    apart_be : Apart be (2 * (t + 1)) pa (a + 1)
    apart_be = apart_swap (apart_low pa (a + 1) be (2 * (t + 1)) (omega (arith, st.within, st.places.a_high, st.places.be_low)))

    monic₁ : MonicAtZero n t w₁
    monic₁ = monic_apart apart_h dv.around st.monic

    factors : Factors n (pa + b) (a + 1 - b) be l al w₁
    factors = record {
      first = record {
        at = λ k h. lower (subst (λ (x : ℕ). get_or w₁ x 0 < ν) (sym (add_assoc pa b k)) (dv.below.at (b + k)
            (omega arith)));
      };
      second = record { at = λ k h. (below_apart apart_be dv.around st.beta.below).at k (omega (arith, st.most)) };
      product = record {
        at = λ k h. (below_apart apart_al dv.around st.alpha.below).at k
            (omega (arith, st.within, st.most, st.some));
      };
      apart_first = apart_low (pa + b) (a + 1 - b) al (a + 1 - b + l - 1)
          (omega (arith, st.within, st.places.a_high, st.places.al_low));
      apart_second = record {
        ok = λ i j p q e. st.places.multipliers.ok j i (omega (arith, st.within, st.most))
            (omega (arith, st.most)) (sym e);
      };
    }
      where
        lower : {x : ℕ} → x < ν → x < n
        lower h = omega (arith, small)

    -- what the product asks
    pub step_room : ProductAsked n (pa + b) (a + 1 - b) be l al w₁
    step_room = record {
      modulus = st.positive;
      some_first = omega (arith, low);
      some_second = st.some;
      first = omega (arith, low, dv.around.same, st.room, st.places.a_high, st.within);
      second = omega (arith, dv.around.same, st.room, st.places.be_high, st.most);
      product = omega (arith, dv.around.same, st.room, st.places.al_high, st.within, st.most);
    }

    pub step_factors : FactorsModulo n t (pa + b) (a + 1 - b) be l al w₁
    step_factors = record {
      factors = factors;
      degree = omega (arith, st.within, st.degree);
      after = omega (arith, st.places.al_low);
      monic = monic₁;
    }

    module _ {l' : ℕ} {w₂ : List ℕ} (tk : TakenFrom n t (pa + b) (a + 1 - b) be l al l' w₁ w₂) where
      longer : l ≤ l'
      longer = ⊎_elim (λ h. omega (arith, tk.full h)) (λ h. omega (arith, st.most)) (lt_or_le l' t)

      apart_b : Apart pb (b + 1) pa (a + 1)
      apart_b = step_pair.apart

      apart_b_al : Apart pb (b + 1) al (a + 1 - b + l - 1)
      apart_b_al = apart_low pb (b + 1) al (a + 1 - b + l - 1) (omega (arith, st.within, st.places.b_high, st.places.al_low))

      apart_a_al : Apart pa (a + 1) al (a + 1 - b + l - 1)
      apart_a_al = apart_low pa (a + 1) al (a + 1 - b + l - 1) (omega (arith, st.within, st.places.a_high, st.places.al_low))

      apart_be_al : Apart be (2 * (t + 1)) al (a + 1 - b + l - 1)
      apart_be_al = record { ok = λ i j p q e. st.places.multipliers.ok j i (omega (arith, st.within, st.most)) p (sym e) }

      alpha₁ : Multiplier n t al l w₁
      alpha₁ = multiplier_apart apart_al dv.around st.alpha

      beta₁ : Multiplier n t be l w₁
      beta₁ = multiplier_apart apart_be dv.around st.beta

      beta₂ : Multiplier n t al l' w₂
      beta₂ = record {
        below = record {
          at = λ k h. ⊎_elim
              (λ b'. tk.below.at k b')
              (λ b'. subst (λ (x : ℕ). x < n) (sym (tk.around.high (al + k) (omega arith))) (alpha₁.below.at k h))
              (lt_or_le k (a + 1 - b + l - 1));
        };
        zero = λ k h h'. ⊎_elim (λ b'. tk.zero k h b') (λ b'. tk.around.high (al + k) (omega arith) ∙ alpha₁.zero k (omega arith) h')
            (lt_or_le k (a + 1 - b + l - 1));
      }

      word_b : get_or w₂ (pb + b) 0 ≡ get_or w (pb + b) 0
      word_b = apart_at apart_b_al tk.around b (omega arith) ∙ apart_at apart_b dv.around b (omega arith)

      -- what the content stage asks
      pub step_stage : StageAt n ν (exchanged p) b b l' w₂
      step_stage = record {
        positive = st.positive;
        above = st.above;
        divides = st.divides;
        degree = one;
        within = omega (arith, st.within);
        some = tk.some;
        most = tk.within;
        room = omega (arith, st.room, dv.around.same, tk.around.same);
        places = places_swap st.places;
        monic = monic_apart (omega (arith, st.places.al_low)) tk.around monic₁;
        first = below_apart apart_b_al tk.around (below_apart apart_b dv.around st.second);
        lead = subst (IsUnit ν) (sym word_b) (unit_of i (omega (arith, st.above)) (record { same = asked.inverse }));
        second = record { at = λ k h. (below_apart apart_a_al tk.around dv.below).at k (omega arith) };
        alpha = multiplier_more l' longer (multiplier_apart apart_be_al tk.around beta₁);
        beta = beta₂;
      }

      kept₂ : Kept (t + 1) w w₂
      kept₂ = kept_trans (kept_around apart_h dv.around) (kept_around (omega (arith, st.places.al_low)) tk.around)

      -- the lists
      long : 8 * (t + 1) ≤ length w
      long = omega (arith, st.room)

      same_h : piece w₂ 0 (t + 1) ≡ piece w 0 (t + 1)
      same_h = kept_piece kept₂ (omega (arith, long))

      same_h₁ : piece w₁ 0 (t + 1) ≡ piece w 0 (t + 1)
      same_h₁ = kept_piece (kept_around apart_h dv.around) (omega (arith, long))

      same_b : piece w₂ pb (b + 1) ≡ piece w pb (b + 1)
      same_b =
          piece_apart apart_b_al tk.around (omega (arith, long, st.within, st.places.b_high, dv.around.same))
          ∙ piece_apart apart_b dv.around (omega (arith, long, st.within, st.places.b_high))

      same_r : piece w₂ pa b ≡ piece w₁ pa b
      same_r = piece_apart (record { ok = λ i j p q e. apart_a_al.ok i j (omega arith) q e }) tk.around
          (omega (arith, long, st.within, st.places.a_high, dv.around.same))

      same_be : piece w₂ be (2 * (t + 1)) ≡ piece w be (2 * (t + 1))
      same_be =
          piece_apart apart_be_al tk.around (omega (arith, long, st.places.be_high, dv.around.same))
          ∙ piece_apart apart_be dv.around (omega (arith, long, st.places.be_high))

      same_al : piece w₁ al (2 * (t + 1)) ≡ piece w al (2 * (t + 1))
      same_al = piece_apart apart_al dv.around (omega (arith, long, st.places.al_high))

      same_be₁ : piece w₁ be (2 * (t + 1)) ≡ piece w be (2 * (t + 1))
      same_be₁ = piece_apart apart_be dv.around (omega (arith, long, st.places.be_high))

      q : List ℕ
      q = piece w₁ (pa + b) (a + 1 - b)

      -- the multipliers, in all their words
      wide : Taken n (piece w 0 (t + 1)) (piece w be (2 * (t + 1))) q (piece w al (2 * (t + 1))) (piece w₂ al (2 * (t + 1)))
      unfolding q
      wide = record {
        z = tk.taken.z;
        at = λ k.
            ap₂ (λ (h : List ℕ) (F : ℕ → ℕ).
            (convolve (coef tk.taken.z) (coef h) k + convolve (coef q) F k + coef (piece w₂ al (2 * (t + 1))) k) % n)
            (sym same_h₁) (fun_ext beta_is)
            ∙ ap (λ (x : ℕ). (convolve (coef tk.taken.z) (coef (piece w₁ 0 (t + 1))) k + convolve (coef q) (coef (piece w₁ be l)) k
            + x) % n)
            (multiplier_short beta₂ (a + 1 - b + l - 1) tk.most (omega (arith, st.within, st.most)) k)
            ∙ tk.taken.at k
            ∙ ap (λ (x : ℕ). x % n) (sym (multiplier_short alpha₁ (a + 1 - b + l - 1) (omega arith) (omega (arith, st.within, st.most)) k)
            ∙ ap (λ (f : List ℕ). coef f k) same_al);
      }
        where
          beta_is : (k : ℕ) → coef (piece w be (2 * (t + 1))) k ≡ coef (piece w₁ be l) k
          beta_is k = ap (λ (f : List ℕ). coef f k) (sym same_be₁) ∙ multiplier_short beta₁ l (omega arith) (omega (arith, st.most)) k

      step_solved : (D : ℕ) (w' : List ℕ) → Solved n ν t pb b pa b be al D w₂ w' → Solved n ν t pa a pb (b + 1) al be D w w'
      unfolding q
      step_solved D w' s = record {
        reduced = reduced_step ν (omega (arith, st.above)) (piece w pa (a + 1)) (piece w pb (b + 1)) q (piece w₁ pa b) D dv.divided
            (subst (λ (f : List ℕ). Reduced ν f (piece w₁ pa b) D) same_b (subst (λ (f : List ℕ). Reduced ν (piece w₂ pb (b + 1)) f D)
            same_r s.reduced));
        below = s.below;
        completes = λ g m p e x y.
            subst (λ (h : List ℕ). Completes n h g (piece w' (t + 1) t) (m * D)) same_h
            (s.completes g m p e
            (subst (λ (h : List ℕ). HasMultiplier n m h g (piece w₂ be (2 * (t + 1))) (piece w₂ pb (b + 1))) (sym same_h)
            (subst (λ (f : List ℕ). HasMultiplier n m (piece w 0 (t + 1)) g f (piece w₂ pb (b + 1))) (sym same_be)
            (subst (λ (f : List ℕ). HasMultiplier n m (piece w 0 (t + 1)) g (piece w be (2 * (t + 1))) f) (sym same_b) y)))
            (subst (λ (h : List ℕ). HasMultiplier n m h g (piece w₂ al (2 * (t + 1))) (piece w₂ pa b)) (sym same_h)
            (subst (λ (f : List ℕ). HasMultiplier n m (piece w 0 (t + 1)) g (piece w₂ al (2 * (t + 1))) f) (sym same_r)
            (multiplier_taken n m ν p (omega (arith, st.above)) e (piece w 0 (t + 1)) g (piece w al (2 * (t + 1)))
            (piece w be (2 * (t + 1)))
            (piece w₂ al (2 * (t + 1))) q
            (piece w pa (a + 1)) (piece w pb (b + 1)) (piece w₁ pa b) wide dv.divided x y))));
      }

      -- what the stage promises
      pub step_answers : (w' : List ℕ) (r : Result ℕ (Split ℕ)) → StageAnswer n ν (exchanged p) b b w₂ w' r → StageAnswer n ν p a (b + 1) w w' r
      step_answers w' (Ok D) s = step_solved D w' s
      step_answers w' (Err p) s = s

      pub step_kept : {w' : List ℕ} → Kept (t + 1) w₂ w' → Kept (t + 1) w w'
      step_kept k = kept_trans kept₂ k

pub ruleset steps = (step_sizes, step_pair, step_room, step_factors, step_stage, step_answers, step_kept)
