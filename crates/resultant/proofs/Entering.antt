-- The sent polynomials in the working buffer, as words that stand for them: f from 0 on and g after it.
--
--   words_placed, room_placed    what the two attempts at them ask
--   entered_attempt              the attempt without inverses answers for what the words stand for, the sent polynomials
--   attempted_found              the same where the modulus of the record is n
--   entered_answer               the general attempt answers for the words; with a power of what 1 stands for, for the sent polynomials
use mathlib.Core.Path.{◌≡◌, refl, sym, ap, ap₂, subst, ◌∙◌}
use mathlib.Core.List.{List}
use mathlib.Core.Logic.{⊎_elim}
use Prim.Native.Nat.{ℕ, zero, suc, pred, ◌+◌, ◌-◌, ◌*◌, ◌%◌, ◌^◌, ◌≤◌, ◌<◌}
use native.Mathlib.Omega.{arith}
use native.Mathlib.Nat.{mul_assoc, mul_comm, mul-one, mod-eq_of_lt}
use lib.ListN.{length, get_or}
use lib.Pow.{pow-add}
use borrow.Author.Rules.{rules}
use Rattle.std.specs.Prelude.{Result}
use Rattle.law_numbers.specs.Congruence.{Cong, c_refl, c_trans, c_eq, c_mod, c_mul}
use Rattle.definitions.specs.Polynomials.{coef, deg}
use Rattle.definitions.specs.Resultants.{resultant}
use Rattle.law_polynomials.specs.ReachedSteps.{Times}
use Rattle.law_polynomials.specs.ResultantLaws.{resultant_scale_first, resultant_scale_second}
use Rattle.windows.specs.Window.{piece}
use Rattle.windows.proofs.Leaf.{lt_or_le, piece_at, piece_over, piece_length}
use Rattle.residue.specs.declared.Split.{Split}
use Rattle.modulus.specs.declared.Modulus.{Modulus}
use Rattle.modulus.specs.Values.{Known, value, values}
use Rattle.modulus.proofs.Valuing.{value_none, value_scaled}
use Rattle.modulus_windows.specs.LoopPromises.{Entered}
use Rattle.modulus_windows.proofs.Forms.{values_length, values_at}
use Rattle.resultant_signs.specs.Degrees.{deg_of}
use Rattle.resultant_pseudo.specs.StandingRuns.{Placed as PairPlaced, EuclidAttempted}
use Rattle.resultant_pseudo.specs.declared.NotUnit.{NotUnit}
use Rattle.resultant_euclid.proofs.Placing.{placed_words}
use Rattle.resultant_steps.specs.AttemptAnswers.{ValueOrSplit, Follows}
use Rattle.resultant_attempt.specs.AttemptStages.{Placed}
use Rattle.resultant.specs.Sizes.{RunLengthsAsked}
use Rattle.resultant.proofs.Loading.{pair_asked, placed_asked, loaded_attempt, loaded_answer}

-- both polynomials times c
scaled_both : (n c : ℕ) → 1 ≤ n → (f f' g g' : List ℕ) → deg f' ≡ deg f → deg g' ≡ deg g → Times n c f' f → Times n c g' g
    → resultant n f' g' ≡ (c ^ (deg f + deg g) * resultant n f g) % n
scaled_both zero c pos f f' g g' hf hg tf tg = absurd (omega arith)
scaled_both (suc m) c pos f f' g g' hf hg tf tg =
    resultant_scale_second m c f' g' g hg tg
    ∙ (c_trans (c_mul (c_refl {a = c ^ deg f'})
    (c_trans (c_eq (resultant_scale_first m c f' f g hf tf)) (c_mod (c ^ deg g * resultant (suc m) f g))))
    (c_eq (ap (λ (d : ℕ). c ^ d * (c ^ deg g * resultant (suc m) f g)) hf
    ∙ sym (mul_assoc (c ^ deg f) (c ^ deg g) (resultant (suc m) f g)) ∙ ap (λ (x : ℕ). x * resultant (suc m) f g)
    (sym (pow-add c (deg f) (deg g)))))).same

module _ (m : Modulus) (known : Known m) where
  -- what the words of a window stand for
  coef_values : (w : List ℕ) (a l k : ℕ) → coef (piece (values m w) a l) k ≡ value m (coef (piece w a l) k)
  coef_values w a l k =
      ⊎_elim (λ h. piece_at (values m w) a l k h ∙ values_at m known w (a + k) ∙ ap (value m) (sym (piece_at w a l k h)))
      (λ h. piece_over (values m w) a l k h ∙ sym (value_none m known) ∙ ap (value m) (sym (piece_over w a l k h))) (lt_or_le k l)

  -- is what 1 stands for, times them
  values_times : (w : List ℕ) (a l : ℕ) → Times m.n (value m 1) (piece (values m w) a l) (piece w a l)
  values_times w a l = record {
    at = λ k. (c_trans (c_eq (coef_values w a l k ∙ ap (value m) (sym (mul-one (coef (piece w a l) k)))))
        (c_trans (value_scaled m known (coef (piece w a l) k) 1) (c_eq (mul_comm (coef (piece w a l) k) (value m 1))))).same;
  }

  values_degree : (w : List ℕ) (a l : ℕ) → a + l ≤ length w → deg (piece (values m w) a l) ≡ deg (piece w a l)
  values_degree w a l h = ap pred (piece_length (values m w) a l (omega (arith, values_length m w)) ∙ sym (piece_length w a l h))

module _ (m : Modulus) (f g w w₁ w₂ : List ℕ) (two : 2 ≤ m.n) (s : RunLengthsAsked f g w) (near : length f ≤ length g)
    (lf : Entered m 0 f w w₁) (lg : Entered m (length f) g w₁ w₂) where
  sizes : RunLengthsAsked f g (values m w)
  sizes = record {
    least_f = s.least_f;
    most_f = s.most_f;
    least_g = s.least_g;
    most_g = s.most_g;
    working = omega (arith, s.working, values_length m w);
  }

  words_placed : PairPlaced m.n 0 (length f - 1) (length f) (length g - 1) w₂
  words_placed =
      placed_words m f g w w₁ w₂ s.least_f s.least_g lf lg
      (pair_asked m.n f g (values m w) (values m w₁) (values m w₂) two sizes near lf.stands lg.stands)

  pub room_placed : Placed m.n 0 (length f - 1) (length f) (length g - 1) (length f + length g) w₂
  room_placed =
      let p = placed_asked m.n f g (values m w) (values m w₁) (values m w₂) two sizes near lf.stands lg.stands in
      record {
        two = two;
        near = p.near;
        first = p.first;
        second = p.second;
        fits = omega
            (arith, p.fits, values_length m w₂);
        pair = words_placed.pair;
      }

  entered_attempt : (r : Result ℕ (NotUnit ℕ)) → EuclidAttempted m.n
      (resultant m.n (piece (values m w₂) 0 (length f - 1 + 1)) (piece (values m w₂) (length f) (length g - 1 + 1))) r
      → EuclidAttempted m.n (resultant m.n f g) r
  entered_attempt = loaded_attempt m.n f g (values m w) (values m w₁) (values m w₂) two sizes near lf.stands lg.stands

  power_is : Known m → (c x : ℕ) → x ≡ value m 1 → c ≡ (x ^ (length f - 1 + (length g - 1))) % m.n
      → (c * resultant m.n (piece w₂ 0 (length f - 1 + 1)) (piece w₂ (length f) (length g - 1 + 1))) % m.n
      ≡ resultant m.n (piece (values m w₂) 0 (length f - 1 + 1)) (piece (values m w₂) (length f) (length g - 1 + 1))
  power_is known c x hx hc =
      let F : List ℕ = piece w₂ 0 (length f - 1 + 1) in
      let G : List ℕ = piece w₂ (length f) (length g - 1 + 1) in
      let hf : 0 + (length f - 1 + 1) ≤ length w₂ = omega (arith, words_placed.first) in
      let hg : length f + (length g - 1 + 1) ≤ length w₂ = omega (arith, words_placed.second) in
      (c_mul (c_trans (c_eq hc) (c_trans (c_mod (x ^ (length f - 1 + (length g - 1))))
      (c_eq (ap₂ (λ (y z : ℕ). y ^ z) hx (ap₂ (λ (y z : ℕ). y + z)
      (sym (deg_of F (length f - 1) (piece_length w₂ 0 (length f - 1 + 1) hf)))
      (sym (deg_of G (length g - 1) (piece_length w₂ (length f) (length g - 1 + 1) hg)))))))) (c_refl {a = resultant m.n F G})).same
      ∙ sym (scaled_both m.n (value m 1) (omega arith) F (piece (values m w₂) 0 (length f - 1 + 1)) G
      (piece (values m w₂) (length f) (length g - 1 + 1))
      (values_degree m known w₂ 0 (length f - 1 + 1) hf) (values_degree m known w₂ (length f) (length g - 1 + 1) hg)
      (values_times m known w₂ 0 (length f - 1 + 1)) (values_times m known w₂ (length f) (length g - 1 + 1)))

  pub entered_answer : Known m → (c x : ℕ) (r a : Result ℕ (Split ℕ)) → x ≡ value m 1 → c ≡ (x ^ (length f - 1 + (length g - 1))) % m.n
      → ValueOrSplit m.n (resultant m.n (piece w₂ 0 (length f - 1 + 1)) (piece w₂ (length f) (length g - 1 + 1))) r
      → Follows m.n (λ (y : ℕ). (c * y) % m.n) r a → ValueOrSplit m.n (resultant m.n f g) a
  entered_answer known c x r a hx hc v follows =
      loaded_answer m.n f g (values m w) (values m w₁) (values m w₂) two sizes near lf.stands lg.stands a
      (subst (λ (y : ℕ). ValueOrSplit m.n y a) (power_is known c x hx hc) (follows.at _ v))

-- the same where the modulus of the record is n
pub placed_found : {n : ℕ} {m : Modulus} {f g w w₁ w₂ : List ℕ} → Entered m 0 f w w₁ → Entered m (length f) g w₁ w₂ → m.n ≡ n
    → 2 ≤ n → RunLengthsAsked f g w → length f ≤ length g → PairPlaced n 0 (length f - 1) (length f) (length g - 1) w₂
placed_found {n} {m} {f} {g} {w} {w₁} {w₂} lf lg is two s near =
    subst (λ (z : ℕ). PairPlaced z 0 (length f - 1) (length f) (length g - 1) w₂) is
    (words_placed m f g w w₁ w₂ (omega arith) s near lf lg)

pub attempted_found : {n : ℕ} {m : Modulus} {f g w w₁ w₂ : List ℕ} (r : Result ℕ (NotUnit ℕ)) → Entered m 0 f w w₁ → Entered m (length f) g w₁ w₂
    → m.n ≡ n
    → 2 ≤ n → RunLengthsAsked f g w → length f ≤ length g
    → EuclidAttempted m.n
    (resultant m.n (piece (values m w₂) 0 (length f - 1 + 1)) (piece (values m w₂) (length f) (length g - 1 + 1))) r
    → EuclidAttempted n (resultant n f g) r
attempted_found {n} {m} {f} {g} {w} {w₁} {w₂} r lf lg is two s near t =
    subst (λ (z : ℕ). EuclidAttempted z (resultant z f g) r) is (entered_attempt m f g w w₁ w₂ (omega arith) s near lf lg r t)

pub ruleset entering = (rules, room_placed, placed_found, attempted_found, entered_answer)
