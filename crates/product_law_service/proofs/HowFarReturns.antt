-- The promise of `how_far` at its two returns, over any width W.
--
--   far_refused    the reduced resultant refused
--   far_done       both answered: the resultant refuses nothing that the reduced resultant does not
--   far            the rules
use mathlib.Core.Path.{◌≡◌, refl, sym, ap, subst, ◌∙◌}
use mathlib.Core.List.{List}
use Prim.Native.Nat.{ℕ, zero, suc, ◌≤◌}
use lib.ListN.{length, replicate, length-replicate}
use Rattle.definitions.specs.Resultants.{resultant}
use Rattle.definitions.specs.Polynomials.{Residues}
use Rattle.refusals.specs.Refusals.{Width, left}
use Rattle.refusals.specs.Conditions.{ServedModulus, ServedLength, status_zero}
use Rattle.refusals.proofs.Statuses.{refused_value}
use Rattle.resultant_service.specs.ResultantService.{ResultantAnswer, resultant_refusals, resultant_conditions, resultant_listed}
use Rattle.reduced_service.specs.ReducedService.{ReducedAnswer, ReducedLeft, reduced_refusals, reduced_conditions, reduced_listed}
use Rattle.product_law_service.specs.HowFar.{HowFarAnswer, how_far}

refused_zero : (s n : ℕ) (f g u u' v v' : List ℕ) (x : ℕ) → (s ≡ 0 → ⊥) → ReducedLeft s n f g u u' v v' x → x ≡ 0
refused_zero zero n f g u u' v v' x z r = absurd (z refl)
refused_zero (suc s) n f g u u' v v' x z r = r.nothing

resultant_answers : (W : Width) (n : ℕ) → ServedModulus W n → (f h work work' : List ℕ) (x s : ℕ) → ServedLength f → ServedLength h
    → Residues n f → Residues n h
    → W.working ≤ length work → ResultantAnswer W n f h work work' x s
    → (ResultantAnswer W n f h work work' x 0) × ((work' ≡ replicate (length work) 0) × (length work' ≡ length work))
resultant_answers W n mo f h work work' x s lf lh wf wh r a =
    let z : s ≡ 0 =
    a.status_is
    ∙ (status_zero (resultant_refusals W n f h (length work)) (resultant_conditions W n f h (length work))
    (resultant_listed W n f h (length work))).1 (mo, (lf, (lh, (wf, (wh, (r, tt)))))) in
    let e : work' ≡ replicate (length work) 0 = a.work_is ∙ ap (λ (t : ℕ). left t work) z in
    (subst (λ (t : ℕ). ResultantAnswer W n f h work work' x t) z a, (e, ap length e ∙ length-replicate (length work) 0))

module _ (W : Width) (n : ℕ) (f g u u' v v' work work₁ : List ℕ) (D s : ℕ) (a : ReducedAnswer W n f g u u' v v' work work₁ D s) where
  pub far_refused : (s ≡ 0 → ⊥) → HowFarAnswer W n f g u u' v v' work work₁ 0 0 s
  far_refused z = record {
    reduced_is = subst (λ (x : ℕ). ReducedAnswer W n f g u u' v v' work work₁ x s) (refused_zero s n f g u u' v v' D z a.result) a;
    resultant_is = refused_value s (resultant n f g) z;
    far = λ e. absurd (z e);
  }

  pub far_done : s ≡ 0 → (work' : List ℕ) (r t : ℕ) → ResultantAnswer W n f g work₁ work' r t
      → HowFarAnswer W n f g u u' v v' work work' r D 0
  far_done z work' r t b =
      let A : ReducedAnswer W n f g u u' v v' work work₁ D 0 =
      subst (λ (i : ℕ). ReducedAnswer W n f g u u' v v' work work₁ D i) z a in
      let p = (status_zero (reduced_refusals W n f g (length u) (length v) (length work))
      (reduced_conditions W n f g (length u) (length v) (length work))
      (reduced_listed W n f g (length u) (length v) (length work))).0 (sym A.status_is) in
      let same : length work₁ ≡ length work = ap length A.work_is ∙ length-replicate (length work) 0 in
      let B = resultant_answers W n p.0 f g work₁ work' r t p.1.0 p.1.1.0 p.1.1.1.0 p.1.1.1.1.0
      (subst (λ (i : ℕ). W.working ≤ i) (sym same) p.1.1.1.1.1.1.1.0) b in
      record {
        reduced_is = record {
          status_is = A.status_is;
          result = A.result;
          work_is = B.1.0 ∙ ap (λ (i : ℕ). replicate i 0) same;
        };
        resultant_is = B.0.value_is;
        far = λ e. how_far W n f g r D (record { work = work₁; work' = work'; call = B.0 })
            (record { u = u; u' = u'; v = v; v' = v'; work = work; work' = work₁; call = A });
      }

pub ruleset far = (tt, far_refused, far_done)
