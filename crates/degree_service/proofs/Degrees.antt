-- How many words there are up to the highest nonzero one, and what the degree told says of that number. For words of any width.
--
--   Descending, descending_found, descending_next, descending_end     the invariant of `extent_of`
--   place_fits        the degree is a word of 32 bits
--   part_inside       the leading part lies within the words
use Rattle.std.specs.Prelude.{◌≡◌, List, ℕ, zero, suc, ◌+◌, ◌-◌, ◌≤◌, ◌<◌, eqb, length}
use Rattle.std.proofs.Common.{sym, subst, ◌∙◌, arith, eq-eqb, ne_eqb}
use Rattle.definitions.specs.Polynomials.{coef, none, place, extent}
use Rattle.refusals.specs.Refusals.{Width, first_refusal, refusals_one}
use Rattle.refusals.specs.Conditions.{accepted_one}
use Rattle.law_polynomial_tests.specs.Counts.{extent_length, extent_count, HoldsFrom, holds_none, holds_more, holds_all, holds_until}
use Rattle.degree_service.specs.declared.Degree.{Degree}
use Rattle.degree_service.specs.DegreeService.{degree_number, told, words_told, TrueDegreeAnswer}

-- ---- the number of words

pub record Descending (f : List ℕ) (k : ℕ) : Type 0 where
  pub most : k ≤ length f
  pub zeros : HoldsFrom (λ (x : ℕ). eqb x 0) f k

pub descending_none : (f : List ℕ) → Descending f (length f)
descending_none f = record { most = omega arith; zeros = holds_none _ _ }

module _ {f : List ℕ} {k : ℕ} (h : Descending f k) where
  pub descending_found : 0 < k → (coef f (k - 1) ≡ 0 → ⊥) → k - 1 + 1 ≡ extent f
  descending_found l z =
      let e : k - 1 + 1 ≡ k = omega (arith, l) in e ∙ holds_until h.zeros h.most (ne_eqb _ _ z) ∙ sym (extent_count f)

  pub descending_next : 0 < k → coef f (k - 1) ≡ 0 → Descending f (k - 1)
  descending_next l z = record { most = omega (arith, h.most); zeros = holds_more h.zeros l (eq-eqb _ _ z) }

  pub descending_end : k ≤ 0 → 0 ≡ extent f
  descending_end l = holds_all h.zeros (omega arith) ∙ sym (extent_count f)

-- ---- the degree told

pub place_fits : (W : Width) (n : ℕ) (f : List ℕ) → 0 ≡ first_refusal (refusals_one W n f) → (k : ℕ) → k ≡ extent f → k - 1 < 4294967296
place_fits W n f z k e = omega (arith, (accepted_one W n f (sym z)).few, extent_length f, e)

pub part_inside : (W : Width) (n : ℕ) (f : List ℕ) (r : Degree) → TrueDegreeAnswer W n f r → words_told r ≤ length f
part_inside W n f r a =
    subst (λ (d : Degree). words_told d ≤ length f) (sym a.case_is) (go (degree_number r) (extent f) (extent_length f))
  where
    go : (s k : ℕ) → k ≤ length f → words_told (told s (elim k [ zero ↦ none | suc j ↦ place j ])) ≤ length f
    go zero zero l = omega arith
    go zero (suc k) l = omega arith
    go (suc s) k l = omega arith
