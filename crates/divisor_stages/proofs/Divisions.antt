-- A step of the division stage: A = q B + R modulo n, and B and R stand as A and B did; and what the stages answer. Each rule takes the
-- facts as the code has them.
--
--   constant_reduced                            B is a constant, a unit
--   divide-…, next_asked, next_answer           a division, and the stage after it
--   unit_falls, unit_asked, unit_answer         the leading word of B is a unit
--   cleared_falls, cleared_within, cleared_splitter    the stage after the clearing of a content, for the cases of each width
--   divisions                                   the rules
use mathlib.Core.Path.{◌≡◌, sym, ap, subst, ◌∙◌, fun_ext}
use mathlib.Core.List.{List}
use Prim.Native.Nat.{ℕ, ◌+◌, ◌-◌, ◌*◌, ◌%◌, ◌≤◌, ◌<◌, ◌∣◌}
use native.Mathlib.Omega.{arith}
use native.Mathlib.Nat.{mul-le-mul_left, dvd-mul_left, pos_of_ne-zero}
use lib.ListN.{get_or}
use Rattle.std.specs.Prelude.{Result, Ok, Err}
use Rattle.definitions.specs.Residues.{IsUnit}
use Rattle.definitions.specs.Polynomials.{coef, convolve, tabulate, Divided}
use Rattle.definitions.specs.Resultants.{Reduced}
use Rattle.law_numbers.specs.Divisors.{GcdCofactor}
use Rattle.law_numbers.specs.Units.{unit_of}
use Rattle.law_polynomials.specs.ReachedSteps.{coef_whole}
use Rattle.windows.specs.Window.{piece, Apart}
use Rattle.windows.proofs.Leaf.{piece_at, piece_over, apart_at}
use Rattle.window_division.specs.Remainders.{DivisionLengthsAsked, Pair, Remainder}
use Rattle.law_multipliers.specs.Reductions.{reduced_step, reduced_unit_constant}
use Rattle.reduced_units.specs.States.{Splitter}
use Rattle.reduced_units.proofs.Regions.{apart_swap, below_apart, piece_apart}
use Rattle.residue.specs.declared.Split.{Split}
use Rattle.divisor_stages.specs.DivisorStages.{ContentAsked, DivisionAsked, DivisorOrSplit, Cleared}
use Rattle.divisor_stages.proofs.Contents.{splitter_dvd}

module _ {n a d b k i s : ℕ} {w : List ℕ} (da : DivisionAsked n a d b k i s w) where
  positive : 1 ≤ n
  positive = omega (arith, da.two)

  -- B is a constant, a unit
  pub constant_reduced : k ≡ 0 → Reduced n (piece w a (d + 1)) (piece w b (k + 1)) 1
  constant_reduced e =
      reduced_unit_constant n i positive (piece w a (d + 1)) (piece w b (k + 1)) (λ j h. piece_over w b (k + 1) j (omega arith))
      (ap (λ (x : ℕ). (i * x) % n) (piece_at w b (k + 1) 0 (omega arith) ∙ ap (λ (x : ℕ). get_or w (b + x) 0) (sym e)) ∙ da.inverse)

  -- what the division asks
  pub divide_sizes : (k ≡ 0 → ⊥) → DivisionLengthsAsked n b k a d w
  divide_sizes nz = record {
    modulus = positive;
    degree = pos_of_ne-zero nz;
    near = omega (arith, da.near);
    divisor = omega (arith, da.second, da.fits);
    dividend = omega (arith, da.first, da.fits);
  }

  pub divide_pair : Pair n b k a d w
  divide_pair = record { first = da.below_second; second = da.below_first; apart = apart_swap da.apart }

  pub divide_inverse : (i * get_or w (b + k) 0) % n ≡ 1 % n
  divide_inverse = da.inverse

  module _ {w₁ : List ℕ} (rm : Remainder n b k a d w w₁) where
    apart : Apart b (k + 1) a (d + 1)
    apart = apart_swap da.apart

    pub next_asked : (k ≡ 0 → ⊥) → ContentAsked n b k a s w₁
    next_asked nz = record {
      two = da.two;
      one = pos_of_ne-zero nz;
      first = da.second;
      second = omega (arith, da.first, da.near);
      fits = omega (arith, da.fits, rm.around.same);
      below_first = below_apart apart rm.around da.below_second;
      below_second = record { at = λ j h. rm.below.at j (omega (arith, da.near)) };
      apart = record { ok = λ x y p q e. apart.ok x y p (omega (arith, da.near)) e };
      lead = subst (IsUnit n) (sym (apart_at apart rm.around k (omega arith))) (unit_of i positive (record { same = da.inverse }));
    }

    same_b : piece w₁ b (k + 1) ≡ piece w b (k + 1)
    same_b = piece_apart apart rm.around (omega (arith, da.second, da.fits))

    q : List ℕ
    q = tabulate (d + 1 - k) rm.q

    q_at : (j : ℕ) → coef q j ≡ rm.q j
    unfolding q
    q_at = coef_whole (d + 1 - k) rm.q (λ j h. rm.top j (omega arith))

    divided : Divided n (piece w a (d + 1)) (piece w b (k + 1)) q (piece w₁ a k)
    divided = record {
      at = λ j. ap (λ (F : ℕ → ℕ). (convolve F (coef (piece w b (k + 1))) j + coef (piece w₁ a k) j) % n) (fun_ext q_at) ∙ rm.at j;
    }

    pub next_answer : (r : Result ℕ (Split ℕ)) → DivisorOrSplit n (piece w₁ b (k + 1)) (piece w₁ a k) r
        → DivisorOrSplit n (piece w a (d + 1)) (piece w b (k + 1)) r
    next_answer (Ok D) x = reduced_step n positive (piece w a (d + 1)) (piece w b (k + 1)) q (piece w₁ a k) D divided
        (subst (λ (f : List ℕ). Reduced n f (piece w₁ a k) D) same_b x)
    next_answer (Err p) x = x

-- the leading word of B is a unit
module _ {n a d b s : ℕ} {w : List ℕ} (st : ContentAsked n a d b s w) where
  one_more : d - 1 + 1 ≡ d
  one_more = omega (arith, st.one)

  pub unit_falls : (t : ℕ) → 2 * d ≡ t → 2 * (d - 1) + 1 < t
  unit_falls t e = omega (arith, st.one)

  pub unit_asked : {g i : ℕ} → GcdCofactor n (get_or w (b + (d - 1)) 0) g i → g ≡ 1 → DivisionAsked n a d b (d - 1) i s w
  unit_asked gc one = record {
    two = st.two;
    near = omega arith;
    first = st.first;
    second = omega (arith, st.one, st.second);
    fits = omega (arith, st.fits);
    below_first = st.below_first;
    below_second = record { at = λ j h. st.below_second.at j (omega (arith, st.one)) };
    apart = record { ok = λ x y p q e. st.apart.ok x y p (omega (arith, st.one)) e };
    inverse = gc.bezout ∙ ap (λ (y : ℕ). y % n) one;
  }

  pub unit_answer : (r : Result ℕ (Split ℕ)) → DivisorOrSplit n (piece w a (d + 1)) (piece w b (d - 1 + 1)) r
      → DivisorOrSplit n (piece w a (d + 1)) (piece w b d) r
  unit_answer r x = subst (λ (l : ℕ). DivisorOrSplit n (piece w a (d + 1)) (piece w b l) r) one_more x

-- after the clearing
module _ {n a d b c v k i s : ℕ} {w w₁ : List ℕ} (cl : Cleared n a d b c v k i s w w₁) where
  pub cleared_falls : (t : ℕ) → 2 * d ≡ t → 2 * k + 1 < t
  cleared_falls t e = omega (arith, cl.shorter)

  module _ {D : ℕ} (x : Reduced v (piece w₁ a (d + 1)) (piece w₁ b (k + 1)) D) where
    pub cleared_within : c * D ≤ n
    cleared_within = subst (λ (z : ℕ). c * D ≤ z) (sym cl.whole) (mul-le-mul_left c x.most)

  pub cleared_splitter : {p q : ℕ} → Splitter v p q → Splitter n p q
  cleared_splitter = splitter_dvd n v _ _ (subst (λ (x : ℕ). v ∣ x) (sym cl.whole) (dvd-mul_left v c))

pub ruleset divisions = (
  constant_reduced,
  divide_sizes,
  divide_pair,
  divide_inverse,
  next_asked,
  next_answer,
  unit_falls,
  unit_asked,
  unit_answer,
)
