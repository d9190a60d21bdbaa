-- The promise of the cofactors of the resultant at each place where the service returns.
--
--   refused_pair, later_told     the status, from the tests in their order
--   some_first, …, few_second    what is known after 1, 2 and 3
--   told_by                      the same of an equal status
--   passed                       what is known once no refusal applies
--   first_some, second_some, first_fits, second_fits, asked     what the run asks then
--   refused, done                the answer
--   returning                    the rules
use mathlib.Core.Path.{◌≡◌, refl, sym, ap, subst, ◌∙◌}
use mathlib.Core.List.{List, ◌++◌}
use Prim.Native.Nat.{ℕ, zero, suc, ◌+◌, ◌-◌, ◌≤◌}
use native.Mathlib.Numerals.{sub-one}
use native.Mathlib.Omega.{arith}
use lib.ListN.{length, take, replicate}
use lib.Seq.{length-take-le}
use borrow.Author.Rules.{rules}
use borrow.Rule.Slice.PartMut.{post_of}
use Rattle.definitions.specs.Polynomials.{deg}
use Rattle.definitions.specs.Resultants.{resultant, Combination}
use Rattle.windows.specs.Window.{Scratch}
use Rattle.refusals.specs.Refusals.{narrow, first_refusal, refusals_of_pair, left}
use Rattle.refusals.specs.Conditions.{Passed, status_zero, accepted_pair}
use Rattle.refusals.proofs.Cascade.{below_bound}
use Rattle.refusals.proofs.Degrees.{degrees_are}
use Rattle.refusals.proofs.Statuses.{refused_early, passed_on, refused_value, answered_value, left_refused}
use Rattle.answers.specs.Cofactors.{held}
use Rattle.cofactor_band.specs.Bands.{CofactorsAsked, ResultantCofactors}
use Rattle.cofactor_service.specs.CofactorService.{room_refusals, cofactor_refusals, CofactorTold}
use Rattle.cofactor_service.specs.CofactorService.{cofactor_conditions, cofactor_listed, CofactorsLeft, CofactorAnswer}

-- ---- the status

module _ (n : ℕ) (f g : List ℕ) (lu lv l s : ℕ) (e : s ≡ first_refusal (refusals_of_pair narrow n f g)) where
  pub refused_pair : (s ≡ 0 → ⊥) → CofactorTold narrow n f g lu lv l s
  refused_pair z = record { is = refused_early (refusals_of_pair narrow n f g) (room_refusals narrow (deg f) (deg g) lu lv l) s e z }

  -- the degrees as the code has them
  pub later_told : {t : ℕ} → s ≡ 0 → t ≡ first_refusal (room_refusals narrow (length f - 1) (length g - 1) lu lv l)
      → CofactorTold narrow n f g lu lv l t
  later_told {t} z h = record {
    is = passed_on (refusals_of_pair narrow n f g) (room_refusals narrow (deg f) (deg g) lu lv l) s t e z
        (subst (λ (i : ℕ). t ≡ first_refusal (room_refusals narrow i (deg g) lu lv l)) (sub-one (length f))
        (subst (λ (i : ℕ). t ≡ first_refusal (room_refusals narrow (length f - 1) i lu lv l)) (sub-one (length g)) h));
  }

module _ (B n : ℕ) (f g : List ℕ) (s : ℕ) (e : s ≡ first_refusal (refusals_of_pair (below_bound B) n f g)) (z : s ≡ 0) where
  pub some_first : 1 ≤ length f
  some_first = (accepted_pair (below_bound B) n f g (sym e ∙ z)).0.some

  pub some_second : 1 ≤ length g
  some_second = (accepted_pair (below_bound B) n f g (sym e ∙ z)).1.some

  pub few_first : length f - 1 ≤ 48
  few_first = omega (arith, (accepted_pair (below_bound B) n f g (sym e ∙ z)).0.few)

  pub few_second : length g - 1 ≤ 48
  few_second = omega (arith, (accepted_pair (below_bound B) n f g (sym e ∙ z)).1.few)

-- ---- the answer

pub told_by : {n : ℕ} {f g : List ℕ} {lu lv l s t : ℕ} → s ≡ t → CofactorTold narrow n f g lu lv l s → CofactorTold narrow n f g lu lv l t
told_by e h = record { is = sym e ∙ h.is }

left_alone : (s n : ℕ) (f g u v : List ℕ) → (s ≡ 0 → ⊥) → CofactorsLeft s n f g u u v v
left_alone zero n f g u v z = absurd (z refl)
left_alone (suc s) n f g u v z = record { first = refl; second = refl }

module _ (n : ℕ) (f g u v work : List ℕ) (s : ℕ)
    (told : CofactorTold narrow n f g (length u) (length v) (length work) s) where
  pub refused : (s ≡ 0 → ⊥) → CofactorAnswer narrow n f g u u v v work work 0 s
  refused z = record {
    status_is = told.is;
    value_is = refused_value s (resultant n f g) z;
    result = left_alone s n f g u v z;
    work_is = left_refused s work z;
  }

  module _ (z : s ≡ 0) where
    passed : Passed (cofactor_conditions narrow n f g (length u) (length v) (length work))
    passed = (status_zero (cofactor_refusals narrow n f g (length u) (length v) (length work))
        (cofactor_conditions narrow n f g (length u) (length v) (length work))
        (cofactor_listed narrow n f g (length u) (length v) (length work))).0 (sym told.is ∙ z)

    pub first_some : 1 ≤ length f
    first_some = let p = passed in p.1.0.some

    pub second_some : 1 ≤ length g
    second_some = let p = passed in p.1.1.0.some

    pub first_fits : length g - 1 ≤ length u
    first_fits = let p = passed in subst (λ (i : ℕ). i ≤ length u) (sym (sub-one (length g))) p.1.1.1.1.1.1.0

    pub second_fits : length f - 1 ≤ length v
    second_fits = let p = passed in subst (λ (i : ℕ). i ≤ length v) (sym (sub-one (length f))) p.1.1.1.1.1.1.1.0

    length_u : (m : ℕ) → m ≡ length g - 1 → length (take m u) ≡ length g - 1
    length_u m em = length-take-le m u (omega (arith, first_fits)) ∙ em

    length_v : (k : ℕ) → k ≡ length f - 1 → length (take k v) ≡ length f - 1
    length_v k ek = length-take-le k v (omega (arith, second_fits)) ∙ ek

    pub asked : {x y : List ℕ} → x ≡ take (length g - 1 - 0) u → y ≡ take (length f - 1 - 0) v → CofactorsAsked n f g x y work
    asked {x} {y} ex ey =
        let p = passed in
        let lu = ap length ex ∙ length_u (length g - 1 - 0) (omega arith) in
        let lv = ap length ey ∙ length_v (length f - 1 - 0) (omega arith) in
        let total : 1 ≤ length f - 1 + (length g - 1) = subst (λ (i : ℕ). 1 ≤ i) (sym (degrees_are f g)) p.1.1.1.1.1.0 in
        record {
          modulus = p.0.least;
          some_f = p.1.0.some;
          few_f = p.1.0.few;
          some_g = p.1.1.0.some;
          few_g = p.1.1.0.few;
          residues_f = p.1.1.1.0;
          residues_g = p.1.1.1.1.0;
          degrees = omega (arith, p.1.0.some, p.1.1.0.some, total);
          first = omega (arith, lu, p.1.1.0.some);
          second = omega (arith, lv, p.1.0.some);
          room = omega (arith, p.1.1.1.1.1.1.1.1.0);
        }

    -- x and y stand for the first words of u and v
    pub done : {u' v' work' : List ℕ} {value status : ℕ} (x y work₁ : List ℕ) (r : ℕ) → ResultantCofactors n f g x y r
        → length x ≡ length (take (length g - 1 - 0) u) → length y ≡ length (take (length f - 1 - 0) v) → Scratch work work₁
        → work' ≡ replicate (length work₁) 0 → value ≡ r → status ≡ 0 → u' ≡ x ++ post_of 0 (length g - 1 - 0) u
        → v' ≡ y ++ post_of 0 (length f - 1 - 0) v → CofactorAnswer narrow n f g u u' v v' work work' value status
    done {u'} {v'} {work'} {value} {status} x y work₁ r c lx ly sw ew er es eu ev =
        let m : length g - 1 - 0 ≡ length g - 1 = omega arith in
        let k : length f - 1 - 0 ≡ length f - 1 = omega arith in
        let p = held n (length g - 1 - 0) (deg g) u x (m ∙ sub-one (length g)) passed.1.1.1.1.1.1.0
        (lx ∙ length_u (length g - 1 - 0) m ∙ sub-one (length g)) c.first in
        let q = held n (length f - 1 - 0) (deg f) v y (k ∙ sub-one (length f)) passed.1.1.1.1.1.1.1.0
        (ly ∙ length_v (length f - 1 - 0) k ∙ sub-one (length f)) c.second in
        rw (eu, ev) (record {
          status_is = es ∙ sym z ∙ told.is;
          value_is = answered_value status (resultant n f g) value es (er ∙ c.value);
          result = subst (λ (t : ℕ). CofactorsLeft t n f g u (x ++ post_of 0 (length g - 1 - 0) u) v (y ++ post_of 0 (length f - 1 - 0) v))
              (sym es) (record {
                first = p.0;
                second = q.0;
                combination = rw (p.1, q.1) (subst (λ (h : ℕ). Combination n f g x y h) c.value c.combination);
              });
          work_is = ew ∙ ap (λ (l : ℕ). replicate l 0) sw.same ∙ ap (λ (t : ℕ). left t work) (sym es);
        })

pub ruleset returning = (rules, first_some, second_some, first_fits, second_fits, refused, asked, done)
