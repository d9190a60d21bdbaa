-- The stages on H and G modulo H, and what they tell of F = U H and G. The rules take what the calls promise, as the code hands it over,
-- for words of any width.
--
--   prepare_asked, solve_second, solve_monic, solve_lead, solve_stage    what the calls of `find` ask
--   find_answer, find_scratch                                            what `find` promises
--   found_asked, found_certified                                         what `solve` asks and promises
--   core-…                                                               what `core` does
--   finds, cores                                                         the rules
use mathlib.Core.Path.{◌≡◌, refl, sym, ap, subst, ◌∙◌}
use mathlib.Core.List.{List}
use mathlib.Core.Logic.{⊎_elim}
use Prim.Native.Nat.{ℕ, zero, suc, ◌+◌, ◌-◌, ◌*◌, ◌%◌, ◌^◌, ◌≤◌, ◌<◌}
use native.Mathlib.Omega.{arith}
use native.Mathlib.Nat.{zero-add, add-zero, add_assoc, one-mul, mul_comm, dvd_refl, mul-le-mul_left}
use lib.Dec.{T, ltb, ltb→lt}
use lib.ListN.{length, get_or}
use mir.Syntax.{w64}
use mir.Val.{Fits}
use borrow.Rule.Slice.PartMut.{put_mid, mid_of}
use Rattle.std.specs.Prelude.{Result, Ok, Err}
use Rattle.definitions.specs.Residues.{K, IsNilpotent}
use Rattle.definitions.specs.Polynomials.{coef, constant, L, Multiplied, Divided, UnitPolynomial}
use Rattle.definitions.specs.Resultants.{Combination, Reduced}
use Rattle.law_numbers.specs.Units.{unit_of}
use Rattle.law_polynomials.specs.ReducedLaws.{reduced_unit, reduced_rest}
use Rattle.windows.specs.Window.{piece, Moved, second, Below, Around, Apart, Kept, Scratch}
use Rattle.windows.proofs.Leaf.{lt_or_le, piece_at, piece_over, piece_same, piece_length}
use Rattle.windows.proofs.Lift.{moved_around, moved_copy, mid_length, was, piece_mid, window, is_now, piece_put, lift_below}
use Rattle.window_factor.specs.Factors.{Given, Factored}
use Rattle.law_multipliers.specs.Multipliers.{HasMultiplier, Completes, NegatedInverse, multiplier_first, multiplier_second}
use Rattle.law_multipliers.specs.Multipliers.{inverse_of_negated}
use Rattle.residue.specs.declared.Split.{Split}
use Rattle.reduced_units.specs.declared.Places.{Places}
use Rattle.reduced_units.specs.States.{Stage, Solved, stage_room}
use Rattle.reduced_units.proofs.Regions.{apart_low, piece_apart, below_apart}
use Rattle.reduced_stages.specs.StageAnswers.{StageAnswer}
use Rattle.reduced_quotients.specs.Quotients.{PrepareAsked, Prepared}
use Rattle.reduced_cofactors.specs.Cofactors.{CoreLengthsAsked, CoreAsked, CoreCertified, CoreAnswer, Certified, core_room}
use Rattle.reduced_cofactors.specs.Cofactors.{FactoredAt, FindAsked, FoundAt, Found, FinishAsked, Finished, monic_place}
use Rattle.reduced_cofactors.proofs.Finishing.{cofactor_fits, degree_fits}

-- the places of the stages' window, as they begin
abbrev pub first_places : ℕ → Places
first_places t = record { t = t; pa = 2 * (t + 1); pb = 3 * (t + 1); al = 4 * (t + 1); be = 6 * (t + 1) }

-- U is moved to the place of F
module _ {n d e t : ℕ} {w w₁ : List ℕ} (asked : FindAsked n d e t w)
    (cp : Moved second (monic_place d e + (t + 1) + t) (e + 1) (d - t + 1) w w₁) where
  two : 2 ≤ n
  two = asked.above

  one : 1 ≤ t
  one = asked.degree

  within : t ≤ d
  within = asked.within

  fa : FactoredAt n d e t w
  fa = asked.factored

  copied : Around (e + 1) (d - t + 1) w w₁
  copied = moved_around cp

  bound : K n * t ≤ K n * d
  bound = mul-le-mul_left (K n) within

  bound_unit : K n * (d - t) ≤ K n * d
  bound_unit = mul-le-mul_left (K n) (omega arith)

  pub prepare_asked : PrepareAsked n e (monic_place d e) t w₁
  prepare_asked = record { modulus = two; degree = one; lies = omega arith; room = omega (arith, cp.same) }

  pub solve_second : Below n 0 (e + 1) w₁
  solve_second = below_apart (apart_low 0 (e + 1) (e + 1) (d - t + 1) (omega arith)) copied fa.second

  apart_h : Apart (monic_place d e) (t + 1) (e + 1) (d - t + 1)
  apart_h = record { ok = λ i j a b h. omega arith }

  pub solve_monic : Below n (monic_place d e) (t + 1) w₁
  solve_monic = below_apart apart_h copied fa.below_h

  pub solve_lead : get_or w₁ (monic_place d e + t) 0 ≡ 1
  solve_lead = copied.high (monic_place d e + t) (omega arith) ∙ fa.monic

  same_u₁ : piece w₁ (e + 1) (d - t + 1) ≡ piece w (monic_place d e + (t + 1) + t) (d + 1 - t)
  same_u₁ = moved_copy (omega arith) (omega arith) cp ∙ ap (λ (x : ℕ). piece w (monic_place d e + (t + 1) + t) x) (let z : d - t + 1 ≡ d +
      1 - t = omega arith in z)

  same_g₁ : piece w₁ 0 (e + 1) ≡ piece w 0 (e + 1)
  same_g₁ = piece_apart (apart_low 0 (e + 1) (e + 1) (d - t + 1) (omega arith)) copied (omega arith)

  same_h₁ : piece w₁ (monic_place d e) (t + 1) ≡ piece w (monic_place d e) (t + 1)
  same_h₁ = piece_apart apart_h copied (omega arith)

  module _ {w₂ : List ℕ} (pr : Prepared n e (monic_place d e) t w₁ w₂) where
    abbrev m : ℕ
    m = length w₂ - monic_place d e

    long : core_room n d e ≤ length w₂
    long = omega (arith, pr.same, cp.same)

    inside : monic_place d e + m ≤ length w₂
    inside = omega (arith, long)

    long_m : stage_room n t ≤ m
    long_m = omega (arith, long, bound)

    -- a word of the window
    at : (i : ℕ) → i < 8 * (t + 1) → get_or (mid_of (monic_place d e) m w₂) i 0 ≡ get_or w₂ (monic_place d e + i) 0
    at i h = was (monic_place d e) m w₂ inside (monic_place d e + i) i refl (omega (arith, long_m))

    low : (i : ℕ) → i < t + 1 → get_or (mid_of (monic_place d e) m w₂) i 0 ≡ get_or w₁ (monic_place d e + i) 0
    low i h = at i (omega arith) ∙ pr.low (monic_place d e + i) (omega arith)

    first_word : (i : ℕ) → i < t + 1 → get_or (mid_of (monic_place d e) m w₂) (2 * (t + 1) + i) 0 ≡ get_or w₁ (monic_place d e + i) 0
    first_word i h =
        at (2 * (t + 1) + i) (omega arith) ∙ ap (λ (x : ℕ). get_or w₂ x 0) (sym (add_assoc (monic_place d e) (2 * (t + 1)) i))
        ∙ sym (piece_at w₂ (monic_place d e + 2 * (t + 1)) (t + 1) i h) ∙ ap (λ (f : List ℕ). coef f i) pr.first ∙ piece_at w₁
        (monic_place d e) (t + 1) i h

    second_word : (i : ℕ) → i < t → get_or (mid_of (monic_place d e) m w₂) (3 * (t + 1) + i) 0 ≡ get_or w₂ (monic_place d e + 3 * (t + 1) + i) 0
    second_word i h = at (3 * (t + 1) + i) (omega arith) ∙ ap (λ (x : ℕ). get_or w₂ x 0) (sym (add_assoc (monic_place d e) (3 * (t + 1)) i))

    none_word : (i : ℕ) → i < 2 * (t + 1) → get_or (mid_of (monic_place d e) m w₂) (4 * (t + 1) + i) 0 ≡ 0
    none_word i h = at (4 * (t + 1) + i) (omega arith) ∙ ap (λ (x : ℕ). get_or w₂ x 0) (sym (add_assoc (monic_place d e) (4 * (t + 1)) i)) ∙
        pr.none i h

    one_word : (i : ℕ) → i < 2 * (t + 1) → get_or (mid_of (monic_place d e) m w₂) (6 * (t + 1) + i) 0 ≡ constant 1 i
    one_word i h = at (6 * (t + 1) + i) (omega arith) ∙ ap (λ (x : ℕ). get_or w₂ x 0) (sym (add_assoc (monic_place d e) (6 * (t + 1)) i)) ∙
        pr.one i h

    unity_small : (i : ℕ) → constant 1 i < n
    unity_small zero = omega arith
    unity_small (suc i) = omega arith

    unity_zero : (i : ℕ) → 1 ≤ i → constant 1 i ≡ 0
    unity_zero zero h = absurd (omega arith)
    unity_zero (suc i) h = refl

    stage : Stage n n t (2 * (t + 1)) t (3 * (t + 1)) t (4 * (t + 1)) (6 * (t + 1)) 1 (mid_of (monic_place d e) m w₂)
    stage = record {
      positive = omega arith;
      above = two;
      divides = dvd_refl n;
      degree = one;
      within = omega arith;
      some = omega arith;
      most = one;
      room = omega (arith, long_m, mid_length (monic_place d e) m w₂ inside);
      places = record {
        a_low = omega arith;
        a_high = omega arith;
        b_low = omega arith;
        b_high = omega arith;
        al_low = omega arith;
        al_high = omega arith;
        be_low = omega arith;
        be_high = omega arith;
        polynomials = apart_low (2 * (t + 1)) (t + 1) (3 * (t + 1)) (t + 1) (omega arith);
        multipliers = apart_low (4 * (t + 1)) (2 * (t + 1)) (6 * (t + 1)) (2 * (t + 1)) (omega arith);
      };
      monic = record {
        lead = low t (omega arith) ∙ solve_lead;
        below = record {
          at = λ i h. subst (λ (x : ℕ). x < n) (sym (ap (λ (x : ℕ). get_or (mid_of (monic_place d e) m w₂) x 0) (zero-add i) ∙
              low i h)) (solve_monic.at i h);
        };
      };
      first = record { at = λ i h. subst (λ (x : ℕ). x < n) (sym (first_word i h)) (solve_monic.at i h) };
      lead = unit_of 1 (omega arith) (record { same = ap (λ (x : ℕ). x % n) (one-mul _ ∙ first_word t (omega arith) ∙ solve_lead) });
      second = record { at = λ i h. subst (λ (x : ℕ). x < n) (sym (second_word i h)) (pr.second.at i h) };
      alpha = record {
        below = record { at = λ i h. subst (λ (x : ℕ). x < n) (sym (none_word i h)) (omega arith) };
        zero = λ i h b. none_word i b;
      };
      beta = record {
        below = record { at = λ i h. subst (λ (x : ℕ). x < n) (sym (one_word i h)) (unity_small i) };
        zero = λ i h b. one_word i b ∙ unity_zero i h;
      };
    }

    pub solve_stage : {n' ν t' pa a pb c al be l : ℕ} {v : List ℕ} → n' ≡ n → ν ≡ n → t' ≡ t → pa ≡ 2 * (t + 1) → a ≡ t → pb ≡ 3 * (t + 1)
        → c ≡ t → al ≡ 4 * (t + 1) → be ≡ 6 * (t + 1) → l ≡ 1 → v ≡ mid_of (monic_place d e) m w₂ → Stage n' ν t' pa a pb c al be l v
    solve_stage en eν et epa ea epb ec eal ebe el ev = rw (en, eν, et, epa, ea, epb, ec, eal, ebe, el, ev) stage

    -- the polynomials of the window
    mid_h : piece (mid_of (monic_place d e) m w₂) 0 (t + 1) ≡ piece w (monic_place d e) (t + 1)
    mid_h =
        piece_mid (monic_place d e) m w₂ inside 0 (t + 1) (omega (arith, long_m)) ∙ ap (λ (x : ℕ). piece w₂ x (t + 1))
        (add-zero (monic_place d e))
        ∙ piece_same w₁ w₂ (monic_place d e) (t + 1) (omega (arith, cp.same)) pr.same (λ k h. pr.low (monic_place d e + k)
        (omega arith)) ∙ same_h₁

    mid_a : piece (mid_of (monic_place d e) m w₂) (2 * (t + 1)) (t + 1) ≡ piece w (monic_place d e) (t + 1)
    mid_a = piece_mid (monic_place d e) m w₂ inside (2 * (t + 1)) (t + 1) (omega (arith, long_m)) ∙ pr.first ∙ same_h₁

    mid_b : piece (mid_of (monic_place d e) m w₂) (3 * (t + 1)) t ≡ piece w₂ (monic_place d e + 3 * (t + 1)) t
    mid_b = piece_mid (monic_place d e) m w₂ inside (3 * (t + 1)) t (omega (arith, long_m))

    alpha_zero : (i : ℕ) → coef (piece (mid_of (monic_place d e) m w₂) (4 * (t + 1)) (2 * (t + 1))) i ≡ 0
    alpha_zero i = ⊎_elim
        (λ h. piece_at (mid_of (monic_place d e) m w₂) (4 * (t + 1)) (2 * (t + 1)) i h ∙ none_word i h)
        (λ h. piece_over (mid_of (monic_place d e) m w₂) (4 * (t + 1)) (2 * (t + 1)) i h)
        (lt_or_le i (2 * (t + 1)))

    beta_one : (i : ℕ) → coef (piece (mid_of (monic_place d e) m w₂) (6 * (t + 1)) (2 * (t + 1))) i ≡ constant 1 i
    beta_one i = ⊎_elim
        (λ h. piece_at (mid_of (monic_place d e) m w₂) (6 * (t + 1)) (2 * (t + 1)) i h ∙ one_word i h)
        (λ h. piece_over (mid_of (monic_place d e) m w₂) (6 * (t + 1)) (2 * (t + 1)) i h ∙ sym (unity_zero i (omega arith)))
        (lt_or_le i (2 * (t + 1)))

    -- G is z H + B
    divided : Divided n (piece w 0 (e + 1)) (piece w (monic_place d e) (t + 1)) pr.z (piece (mid_of (monic_place d e) m w₂)
        (3 * (t + 1)) t)
    divided =
        subst (λ (f : List ℕ). Divided n f (piece w (monic_place d e) (t + 1)) pr.z (piece (mid_of (monic_place d e) m w₂) (3 * (t + 1))
        t)) same_g₁
        (subst (λ (f : List ℕ). Divided n (piece w₁ 0 (e + 1)) f pr.z (piece (mid_of (monic_place d e) m w₂) (3 * (t + 1)) t)) same_h₁
        (subst (Divided n (piece w₁ 0 (e + 1)) (piece w₁ (monic_place d e) (t + 1)) pr.z) (sym mid_b) pr.divided))

    module _ (ws : List ℕ) (lw : length ws ≡ length (mid_of (monic_place d e) m w₂))
        (kept : Kept (t + 1) (mid_of (monic_place d e) m w₂) ws) where
      around : Around (monic_place d e) m w₂ (put_mid (monic_place d e) m w₂ ws)
      around = window (monic_place d e) m w₂ inside ws lw

      long_now : length (put_mid (monic_place d e) m w₂ ws) ≡ length w
      long_now = around.same ∙ pr.same ∙ cp.same

      under : (k : ℕ) → k < monic_place d e → get_or (put_mid (monic_place d e) m w₂ ws) k 0 ≡ get_or w₁ k 0
      under k h = around.low k h ∙ pr.low k (omega arith)

      h_word : (i : ℕ) → i < t + 1 → get_or (put_mid (monic_place d e) m w₂ ws) (monic_place d e + i) 0 ≡ get_or w₁ (monic_place d e + i) 0
      h_word i h = is_now (monic_place d e) m w₂ inside ws lw (monic_place d e + i) i refl (omega (arith, long_m)) ∙ kept.low i h ∙ low i h

      same_h₃ : piece (put_mid (monic_place d e) m w₂ ws) (monic_place d e) (t + 1) ≡ piece w (monic_place d e) (t + 1)
      same_h₃ = piece_same w₁ (put_mid (monic_place d e) m w₂ ws) (monic_place d e) (t + 1) (omega (arith, cp.same))
          (around.same ∙ pr.same) h_word ∙ same_h₁

      same_u₃ : piece (put_mid (monic_place d e) m w₂ ws) (e + 1) (d - t + 1) ≡ piece w (monic_place d e + (t + 1) + t) (d + 1 - t)
      same_u₃ = piece_same w₁ (put_mid (monic_place d e) m w₂ ws) (e + 1) (d - t + 1) (omega (arith, cp.same)) (around.same ∙ pr.same)
          (λ k h. under (e + 1 + k) (omega arith)) ∙ same_u₁

      same_g₃ : piece (put_mid (monic_place d e) m w₂ ws) 0 (e + 1) ≡ piece w 0 (e + 1)
      same_g₃ = piece_same w₁ (put_mid (monic_place d e) m w₂ ws) 0 (e + 1) (omega (arith, cp.same)) (around.same ∙ pr.same)
          (λ k h. under (0 + k) (omega arith)) ∙ same_g₁

      module _ (D : ℕ) (sv : Solved n n t (2 * (t + 1)) t (3 * (t + 1)) t (4 * (t + 1)) (6 * (t + 1)) D (mid_of (monic_place d e) m w₂) ws)
        where
          -- the multiplier found completes to D
          completes : Completes n (piece w (monic_place d e) (t + 1)) (piece w 0 (e + 1)) (piece ws (t + 1) t) D
          completes =
              subst (Completes n (piece w (monic_place d e) (t + 1)) (piece w 0 (e + 1)) (piece ws (t + 1) t)) (one-mul D)
              (subst (λ (h : List ℕ). Completes n h (piece w 0 (e + 1)) (piece ws (t + 1) t) (1 * D)) mid_h
              (sv.completes (piece w 0 (e + 1)) 1 (omega arith) (sym (one-mul n))
              (subst (λ (f : List ℕ). HasMultiplier n 1 (piece (mid_of (monic_place d e) m w₂) 0 (t + 1)) (piece w 0 (e + 1))
              (piece (mid_of (monic_place d e) m w₂) (4 * (t + 1)) (2 * (t + 1))) f) (mid_h ∙ sym mid_a)
              (multiplier_first n (omega arith) (piece (mid_of (monic_place d e) m w₂) 0 (t + 1)) (piece w 0 (e + 1))
              (piece (mid_of (monic_place d e) m w₂) (4 * (t + 1)) (2 * (t + 1))) alpha_zero))
              (multiplier_second n (omega arith) (piece (mid_of (monic_place d e) m w₂) 0 (t + 1)) (piece w 0 (e + 1))
              (piece (mid_of (monic_place d e) m w₂) (6 * (t + 1)) (2 * (t + 1))) pr.z
              (piece (mid_of (monic_place d e) m w₂) (3 * (t + 1)) t) beta_one
              (subst (λ (f : List ℕ). Divided n (piece w 0 (e + 1)) f pr.z (piece (mid_of (monic_place d e) m w₂) (3 * (t + 1)) t))
              (sym mid_h) divided))))

          found : FoundAt n d e t D w (put_mid (monic_place d e) m w₂ ws)
          found = record {
            same = long_now;
            second = same_g₃;
            first = same_u₃;
            monic = same_h₃;
            below_h = record { at = λ i h. subst (λ (x : ℕ). x < n) (sym (h_word i h)) (solve_monic.at i h) };
            lead = h_word t (omega arith) ∙ solve_lead;
            multiplier = lift_below (monic_place d e) m w₂ inside ws lw n (t + 1) t (omega (arith, long_m)) sv.below;
            reduced =
                reduced_rest n (omega arith) (piece w (monic_place d e) (t + 1)) (piece w 0 (e + 1)) pr.z
                (piece (mid_of (monic_place d e) m w₂) (3 * (t + 1)) t) D divided
                (subst (λ (f : List ℕ). Reduced n f (piece (mid_of (monic_place d e) m w₂) (3 * (t + 1)) t) D) mid_a sv.reduced);
            completes =
                subst (λ (v : List ℕ). Completes n (piece w (monic_place d e) (t + 1)) (piece w 0 (e + 1)) v D)
                (sym (piece_put (monic_place d e) m w₂ inside ws lw (t + 1) t (omega (arith, long_m)))) completes;
          }

      pub find_answer : (r : Result ℕ (Split ℕ)) → StageAnswer n n (first_places t) t t (mid_of (monic_place d e) m w₂) ws r
          → Found n d e t w (put_mid (monic_place d e) m w₂ ws) r
      find_answer (Ok D) sv = found D sv
      find_answer (Err p) sp = sp

      pub find_scratch : Scratch w (put_mid (monic_place d e) m w₂ ws)
      find_scratch = record { same = long_now }

pub ruleset finds = (prepare_asked, solve_second, solve_monic, solve_lead, solve_stage, find_answer, find_scratch)

-- ---- D is found

module _ {n d e t D : ℕ} {w w' x y : List ℕ} (sp : CoreLengthsAsked n d e w x y) (one : 1 ≤ t) (within : t ≤ d) (fa : FactoredAt n d e t w)
    (fd : FoundAt n d e t D w w') where
  pub found_asked : FinishAsked n e (monic_place d e) t (d - t) w' x y
  found_asked = record {
    above = sp.above;
    degree = one;
    near = omega arith;
    second = record { at = λ k h. subst (λ (x : ℕ). x < n) (sym (word k h)) (fa.second.at k h) };
    room = omega (arith, fd.same, sp.room, bound (K n));
    long_x = omega (arith, sp.long_x, cofactor_fits n d e (d - t) sp.above (omega arith));
    long_y = omega (arith, sp.long_y, degree_fits n d e t sp.above within);
    below_h = fd.below_h;
    lead = fd.lead;
    multiplier = fd.multiplier;
    unit = subst (UnitPolynomial n) (sym fd.first) fa.unit;
  }
    where
      word : (k : ℕ) → k < e + 1 → get_or w' (0 + k) 0 ≡ get_or w (0 + k) 0
      word k h = sym (piece_at w' 0 (e + 1) k h) ∙ ap (λ (f : List ℕ). coef f k) fd.second ∙ piece_at w 0 (e + 1) k h

      bound : (k : ℕ) → k * (d - t) ≤ k * d
      bound k = mul-le-mul_left k (omega arith)

  pub found_certified : {u v : List ℕ} → Finished n e (monic_place d e) t (d - t) D w' u v → CoreCertified n d e w u v D
  found_certified {u} {v} fin = record {
    reduced =
        let i = inverse_of_negated n (omega (arith, sp.above)) (piece w (monic_place d e + (t + 1) + t) (d + 1 - t)) fin.j
        (subst (λ (f : List ℕ). NegatedInverse n f fin.j) fd.first fin.inverse) in
        reduced_unit n (omega (arith, sp.above)) (piece w (e + 1) (d + 1)) (piece w (monic_place d e + (t + 1) + t) (d + 1 - t)) i.0
        (piece w (monic_place d e) (t + 1)) (piece w 0 (e + 1)) D fa.equation i.1 fd.reduced;
    combination =
        subst (λ (g : List ℕ). Combination n (piece w (e + 1) (d + 1)) g u v D) fd.second
        (fin.combination (piece w (e + 1) (d + 1))
        (subst (λ (a : List ℕ). Multiplied n (piece w (e + 1) (d + 1)) a (piece w' (monic_place d e) (t + 1))) (sym fd.first)
        (subst (Multiplied n (piece w (e + 1) (d + 1)) (piece w (monic_place d e + (t + 1) + t) (d + 1 - t))) (sym fd.monic)
        fa.equation))
        (subst (λ (h : List ℕ). Completes n h (piece w' 0 (e + 1)) (piece w' (monic_place d e + (t + 1)) t) D) (sym fd.monic)
        (subst (λ (g : List ℕ). Completes n (piece w (monic_place d e) (t + 1)) g (piece w' (monic_place d e + (t + 1)) t) D)
        (sym fd.second) fd.completes)));
    below_u = fin.below_x;
    below_v = fin.below_y;
    short_u = λ k h. fin.short_x k (omega (arith, cofactor_fits n d e (d - t) sp.above (omega arith)));
    short_v = λ k h. fin.short_y k (omega (arith, degree_fits n d e t sp.above within));
  }

-- ---- F is factored

module _ {n d e t i : ℕ} {w x y : List ℕ} (asked : CoreAsked n d e t i w x y) where
  abbrev span : ℕ
  span = e + 1 + (d + 1 + (t + 1 + (d + 1))) - (e + 1)

  pub core_degree : t ≤ d
  core_degree = omega (arith, asked.lead.place, piece_length w (e + 1) (d + 1) (omega arith))

  pub core_part : e + 1 + (d + 1 + (t + 1 + (d + 1))) ≤ length w
  core_part = omega (arith, core_degree)

  -- the sums that the code writes: all is less than the words that are owned
  module _ (k : ℕ) (owned : length w * k < 2 ^ 63) (some : T (ltb 0 k)) where
    sum_fits : {s : ℕ} → s ≤ e + 1 + (d + 1 + (t + 1 + (d + 1))) → Fits w64 s
    sum_fits h = omega (arith, core_part, mul-le-mul_left (length w) (ltb→lt 0 k some))

    pub core_sum : Fits w64 (t + 1)
    core_sum = sum_fits (omega arith)

    pub core_sum_two : Fits w64 (t + 1 + (d + 1))
    core_sum_two = sum_fits (omega arith)

    pub core_sum_three : Fits w64 (d + 1 + (t + 1 + (d + 1)))
    core_sum_three = sum_fits (omega arith)

    pub core_sum_all : Fits w64 (e + 1 + (d + 1 + (t + 1 + (d + 1))))
    core_sum_all = sum_fits (omega arith)

  core_inside : e + 1 + span ≤ length w
  core_inside = omega (arith, core_degree)

  core_first : piece (mid_of (e + 1) span w) 0 (d + 1) ≡ piece w (e + 1) (d + 1)
  core_first = piece_mid (e + 1) span w core_inside 0 (d + 1) (omega arith) ∙ ap (λ (x : ℕ). piece w x (d + 1)) (add-zero (e + 1))

  pub core_fits : d + 1 + (t + 1 + (d + 1)) ≤ length (mid_of (e + 1) span w)
  core_fits = omega (arith, mid_length (e + 1) span w core_inside)

  pub core_given : Given n d t i (mid_of (e + 1) span w)
  core_given = record {
    small = asked.lead.inverse.below;
    below = record {
      at = λ k h. subst (λ (x : ℕ). x < n) (sym (was (e + 1) span w core_inside (e + 1 + k) (0 + k) (omega arith)
          (omega arith))) (asked.first.at k h);
    };
    unit = ap (λ (f : List ℕ). (i * coef f t) % n) core_first ∙ ap (λ (x : ℕ). x % n) (mul_comm i _) ∙ asked.lead.inverse.one;
    nilpotent = λ k h. subst (λ (f : List ℕ). IsNilpotent n (coef f k)) (sym core_first) (asked.lead.nilpotent k h);
  }

  module _ (ys : List ℕ) (ly : length ys ≡ length (mid_of (e + 1) span w)) where
    core_around : Around (e + 1) span w (put_mid (e + 1) span w ys)
    core_around = window (e + 1) span w core_inside ys ly

    pub core_space : CoreLengthsAsked n d e (put_mid (e + 1) span w ys) x y
    core_space = record {
      above = asked.space.above;
      room = omega (arith, core_around.same);
      long_x = asked.space.long_x;
      long_y = asked.space.long_y;
    }

    pub core_scratch : {w' : List ℕ} → Scratch (put_mid (e + 1) span w ys) w' → Scratch w w'
    core_scratch sc = record { same = sc.same ∙ core_around.same }

    core_g : piece (put_mid (e + 1) span w ys) 0 (e + 1) ≡ piece w 0 (e + 1)
    core_g = piece_apart (apart_low 0 (e + 1) (e + 1) span (omega arith)) core_around (omega arith)

    module _ (fc : Factored n d t (mid_of (e + 1) span w) ys) where
      core_f_words : piece ys 0 (d + 1) ≡ piece (mid_of (e + 1) span w) 0 (d + 1)
      core_f_words = piece_same (mid_of (e + 1) span w) ys 0 (d + 1) (omega (arith, core_fits)) ly (λ k h. fc.around.low (0 + k)
          (omega arith))

      core_f : piece (put_mid (e + 1) span w ys) (e + 1) (d + 1) ≡ piece w (e + 1) (d + 1)
      core_f =
          ap (λ (x : ℕ). piece (put_mid (e + 1) span w ys) x (d + 1)) (sym (add-zero (e + 1)))
          ∙ piece_put (e + 1) span w core_inside ys ly 0 (d + 1) (omega arith) ∙ core_f_words ∙ core_first

      core_h : piece (put_mid (e + 1) span w ys) (monic_place d e) (t + 1) ≡ piece ys (d + 1) (t + 1)
      core_h = piece_put (e + 1) span w core_inside ys ly (d + 1) (t + 1) (omega arith)

      core_u : piece (put_mid (e + 1) span w ys) (monic_place d e + (t + 1) + t) (d + 1 - t) ≡ piece ys (d + 1 + (t + 1) + t) (d + 1 - t)
      core_u =
          ap (λ (x : ℕ). piece (put_mid (e + 1) span w ys) x (d + 1 - t)) (let z : monic_place d e + (t + 1) + t ≡ e + 1 + (d + 1 + (t + 1) +
          t) = omega arith in z)
          ∙ piece_put (e + 1) span w core_inside ys ly (d + 1 + (t + 1) + t) (d + 1 - t) (omega (arith, core_degree))

      pub core_factored : FactoredAt n d e t (put_mid (e + 1) span w ys)
      core_factored = record {
        second = below_apart (apart_low 0 (e + 1) (e + 1) span (omega arith)) core_around asked.second;
        equation =
            subst (λ (f : List ℕ). Multiplied n f (piece (put_mid (e + 1) span w ys) (monic_place d e + (t + 1) + t) (d + 1 - t))
            (piece (put_mid (e + 1) span w ys) (monic_place d e) (t + 1))) (core_first ∙ sym core_f)
            (subst (λ (u : List ℕ). Multiplied n (piece (mid_of (e + 1) span w) 0 (d + 1)) u (piece (put_mid (e + 1) span w ys)
            (monic_place d e)
            (t + 1))) (sym core_u)
            (subst (Multiplied n (piece (mid_of (e + 1) span w) 0 (d + 1)) (piece ys (d + 1 + (t + 1) + t) (d + 1 - t))) (sym core_h)
            fc.equation));
        monic = sym (piece_at (put_mid (e + 1) span w ys) (monic_place d e) (t + 1) t (omega arith)) ∙ ap (λ (f : List ℕ). coef f t) core_h ∙
            fc.monic;
        below_h = lift_below (e + 1) span w core_inside ys ly n (d + 1) (t + 1) (omega arith) fc.below_h;
        unit = subst (UnitPolynomial n) (sym core_u) fc.unit;
      }

      pub core_constant : t ≡ 0 → FactoredAt n d e 0 (put_mid (e + 1) span w ys)
      core_constant z = subst (λ (a : ℕ). FactoredAt n d e a (put_mid (e + 1) span w ys)) z core_factored

      -- F and G are kept, and so is what is certified of them
      pub core_certified : {u v : List ℕ} {D : ℕ} → CoreCertified n d e (put_mid (e + 1) span w ys) u v D → CoreCertified n d e w u v D
      core_certified {u} {v} {D} c =
          subst (λ (f : List ℕ). Certified n (L n d e) f (piece w 0 (e + 1)) u v D) core_f
          (subst (λ (g : List ℕ). Certified n (L n d e) (piece (put_mid (e + 1) span w ys) (e + 1) (d + 1)) g u v D) core_g c)

      pub core_answer : (u v : List ℕ) (r : Result ℕ (Split ℕ)) → CoreAnswer n d e (put_mid (e + 1) span w ys) x y u v r → CoreAnswer n d e w x y u v r
      core_answer u v (Ok D) c = core_certified c
      core_answer u v (Err p) c = c

pub ruleset sums = (core_sum, core_sum_two, core_sum_three, core_sum_all)

pub ruleset cores = (
  core_degree,
  core_part,
  core_fits,
  core_given,
  core_space,
  core_scratch,
  core_factored,
  core_constant,
  core_certified,
  core_answer,
)
