-- Cofactors from those of a quotient by a common content, and from those modulo two coprime factors of the modulus.
--
--   combination_flip       f and g exchanged
--   combination_same       the words count modulo n only
--   combination_content    f = c f' and g = c g' modulo c n
--   combination_coprime    modulo n₁ n₂, coprime
--
-- proofs/BezoutJoined has the same by Bézout's equation.
use Rattle.std.specs.Prelude.{◌≡◌, List, ℕ, ◌≤◌, ◌%◌, ◌+◌, ◌*◌}
use Rattle.std.proofs.Common.{sym, ◌∙◌, ap, add_comm, mul_comm}
use Rattle.std.proofs.Math.Nat.{zero-mod}
use Rattle.definitions.specs.Polynomials.{coef, convolve}
use Rattle.definitions.specs.Residues.{Coprime}
use Rattle.definitions.specs.Resultants.{Combination}
use Rattle.law_numbers.specs.Congruence.{c_refl, c_trans, c_eq, c_mul}
use Rattle.law_polynomials.specs.ReachedSteps.{plus_mod, lift_mod, convolve_mod, constant_scale, content_both, Times}
use Rattle.law_polynomials.specs.ReducedLaws.{combination_mixed}
pub use Rattle.law_polynomials.specs.ReducedLaws.{Mixed}

pub combination_flip : {n : ℕ} {f g u v : List ℕ} {c : ℕ} → Combination n f g u v c → Combination n g f v u c
combination_flip {n} {f} {g} {u} {v} {c} x = record {
  sum = λ k. ap (λ (y : ℕ). y % n) (add_comm (convolve (coef v) (coef g) k) (convolve (coef u) (coef f) k)) ∙ x.sum k;
}

-- only the words modulo n matter
pub combination_same : (n : ℕ) → 1 ≤ n → (f f' g g' u u' v v' : List ℕ) (c : ℕ)
    → ((k : ℕ) → coef f k % n ≡ coef f' k % n) → ((k : ℕ) → coef g k % n ≡ coef g' k % n)
    → ((k : ℕ) → coef u k % n ≡ coef u' k % n) → ((k : ℕ) → coef v k % n ≡ coef v' k % n)
    → Combination n f g u v c → Combination n f' g' u' v' c
combination_same n l f f' g g' u u' v v' c ef eg eu ev x = record {
  sum = λ k.
      sym (plus_mod n _ _ _ _ (convolve_mod n l (coef u) (coef u') (coef f) (coef f') eu ef k)
      (convolve_mod n l (coef v) (coef v') (coef g) (coef g') ev eg k))
      ∙ x.sum k;
}

-- the content c of both is a factor of what they combine to
pub combination_content : (c n D : ℕ) → 1 ≤ c → 1 ≤ n → (f f' g g' u v : List ℕ) → Times (c * n) c f f' → Times (c * n) c g g'
    → Combination n f' g' u v D → Combination (c * n) f g u v (c * D)
combination_content c n D p q f f' g g' u v tf tg x = record {
  sum = λ k.
      content_both c n p q f f' g g' tf tg u v k
      ∙ lift_mod c n _ _ p q (x.sum k)
      ∙ ap (λ (y : ℕ). y % (c * n)) (sym (constant_scale c D k));
}

-- a is D₂ modulo n₁ and 0 modulo n₂, b is 0 modulo n₁ and D₁ modulo n₂
pub combination_coprime : {n₁ n₂ : ℕ} → 1 ≤ n₁ → 1 ≤ n₂ → Coprime n₁ n₂ → (a b D₁ D₂ : ℕ)
    → a % n₁ ≡ D₂ % n₁ → a % n₂ ≡ 0 → b % n₁ ≡ 0 → b % n₂ ≡ D₁ % n₂
    → (f g u u₁ u₂ v v₁ v₂ : List ℕ) → Mixed (n₁ * n₂) a b u₁ u₂ u → Mixed (n₁ * n₂) a b v₁ v₂ v
    → Combination n₁ f g u₁ v₁ D₁ → Combination n₂ f g u₂ v₂ D₂ → Combination (n₁ * n₂) f g u v (D₁ * D₂)
combination_coprime {n₁} {n₂} p₁ p₂ c a b D₁ D₂ a₁ a₂ b₁ b₂ =
    combination_mixed p₁ p₂ c
    (c_trans (c_mul (record { same = a₁ }) (c_refl {a = D₁})) (c_eq (mul_comm D₂ D₁)))
    (record { same = b₁ ∙ sym (zero-mod n₁) })
    (record { same = a₂ ∙ sym (zero-mod n₂) })
    (c_mul (record { same = b₂ }) (c_refl {a = D₂}))
