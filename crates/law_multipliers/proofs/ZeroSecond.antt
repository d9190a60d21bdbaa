-- The reduced resultant where the second is 0: it is the modulus.
--
--   reduced_none    the second is 0
use Rattle.std.specs.Prelude.{◌≡◌, List, [], ℕ, ◌≤◌, ◌%◌, ◌*◌}
use Rattle.std.proofs.Common.{sym, ◌∙◌, subst, mul-one, arith}
use Rattle.std.proofs.Math.Path.{ap}
use Rattle.std.proofs.Math.Nat.{mul-mod_right}
use Rattle.definitions.specs.Polynomials.{coef}
use Rattle.definitions.specs.Resultants.{Reduced}
use Rattle.law_polynomials.specs.ReducedLaws.{reduced_one}
use Rattle.law_multipliers.specs.Reductions.{UnitLead, reduced_lead}

-- the second is 0
pub reduced_none : (ν t : ℕ) → 1 ≤ ν → 1 ≤ t → (f r : List ℕ) → UnitLead ν t f → ((k : ℕ) → coef r k % ν ≡ 0) → Reduced ν f r ν
reduced_none ν t p q f r u z =
    subst (λ (x : ℕ). Reduced x f r x) one_more
    (reduced_lead ν 1 t p (omega arith) q f (subst (λ (x : ℕ). UnitLead x t f) (sym one_more) u) r [] 1
    (record { at = λ k. ap (λ (x : ℕ). coef r k % x) one_more ∙ z k ∙ sym (nothing k) }) (reduced_one f []))
  where
    one_more : ν * 1 ≡ ν
    one_more = mul-one ν

    nothing : (k : ℕ) → (ν * coef [] k) % (ν * 1) ≡ 0
    nothing k = ap (λ (x : ℕ). (ν * coef [] k) % x) one_more ∙ mul-mod_right ν (coef [] k)
