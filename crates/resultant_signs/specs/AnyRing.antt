-- Division without inverses over any commutative ring: f of degree d, g of a degree e at least d, x any element with x g = q f + r. No unit
-- is asked for anywhere, and nothing is divided: the laws multiply both sides.
--
--   elimination_any    an elimination, r of one degree less than g: x^d Res(f, g) is f_d Res(f, r)
--   step_any           a whole division, r of degree d - 1: x^d Res(f, g) is f_d^k Res(r, f), k = e - d + 1; for x = f_d^k that is x
--                      Res(r, f)
--   RunOver            where a run stands: S P^d R₀ is P A R, R₀ the resultant asked for, R that of the pair that is left, the first of
--                      degree d
--   over_start, over_elimination, over_fall, over_drop    the run's steps; at degree 0 it says that S R₀ is P A R
--
-- Letters: P is the product of the powers of leading coefficients taken so far, S that of the P's at each degree, A what zero leads gave.
use Rattle.std.specs.Prelude.{◌≡◌, refl, [], ◌∷◌, ℕ, zero, suc, ◌<◌, ◌+◌ as ◌+ℕ◌}
use Rattle.std.proofs.Common.{sym, ◌∙◌, ap, ap₂}
use Rattle.std.proofs.Math.Path.{fun_ext}
use Rattle.law_algebra.specs.Normaliser.{quote, by_ring}
use Rattle.law_algebra.specs.Ring.{CRing, pw}
use Rattle.law_algebra.specs.SentLaws.{Rs, Rs_scale_second, Rs_add_second, Rs_drop_second, Rs_divide}
use Rattle.law_algebra.specs.Series.{conv}

module _ {R : Type 0} (𝓡 : CRing R) where
  open 𝓡 use {add as ◌+◌, mul as ◌*◌, nil as 𝟘, unit as 𝟙, one_mul}

  infixl 65 ◌+◌
  infixl 70 ◌*◌
  pub elimination_any : (d e k : ℕ) (x : R) (f g q r : ℕ → R) → k +ℕ d ≡ suc e → ((i : ℕ) → d < i → f i ≡ 𝟘) → ((i : ℕ) → k < i → q i ≡ 𝟘)
      → r (suc e) ≡ 𝟘 → ((i : ℕ) → x * g i ≡ conv 𝓡 q f i + r i) → pw 𝓡 x d * Rs 𝓡 d (suc e) f g ≡ f d * Rs 𝓡 d e f r
  elimination_any d e k x f g q r h zf zq top eq =
      sym (Rs_scale_second 𝓡 d (suc e) x f g) ∙ ap (Rs 𝓡 d (suc e) f) (fun_ext eq)
      ∙ ap (λ (n : ℕ). Rs 𝓡 d n f (λ i. conv 𝓡 q f i + r i)) (sym h) ∙ Rs_add_second 𝓡 d k f r q zf zq
      ∙ ap (λ (n : ℕ). Rs 𝓡 d n f r) h ∙ Rs_drop_second 𝓡 d e f r top

  pub step_any : (s k : ℕ) (x : R) (f g q r : ℕ → R) → ((i : ℕ) → suc s < i → f i ≡ 𝟘) → ((i : ℕ) → k < i → q i ≡ 𝟘)
      → ((i : ℕ) → s < i → r i ≡ 𝟘) → ((i : ℕ) → x * g i ≡ conv 𝓡 q f i + r i)
      → pw 𝓡 x (suc s) * Rs 𝓡 (suc s) (k +ℕ suc s) f g ≡ pw 𝓡 (f (suc s)) (suc k) * Rs 𝓡 s (suc s) r f
  step_any s k x f g q r zf zq zr eq =
      sym (Rs_scale_second 𝓡 (suc s) (k +ℕ suc s) x f g) ∙ ap (Rs 𝓡 (suc s) (k +ℕ suc s) f) (fun_ext eq) ∙ Rs_divide 𝓡 s k f q r zf zq zr

  -- ---- the whole run

  pub record RunOver (S P A : R) (d : ℕ) (R₀ R₁ : R) : Type 0 where
    pub is : S * pw 𝓡 P d * R₀ ≡ P * A * R₁

  pw_mul : (a b : R) (k : ℕ) → pw 𝓡 (a * b) k ≡ pw 𝓡 a k * pw 𝓡 b k
  pw_mul a b zero = sym (one_mul 𝟙)
  pw_mul a b (suc k) = ap (λ (x : R). a * b * x) (pw_mul a b k) ∙ elimination a b (pw 𝓡 a k) (pw 𝓡 b k)
    where
      elimination : (a b x y : R) → a * b * (x * y) ≡ a * x * (b * y)
      elimination a b x y = by_ring 𝓡 (a ∷ b ∷ x ∷ y ∷ []) (search quote depth 20) (search quote depth 20) refl

  pw_unit : (k : ℕ) → pw 𝓡 𝟙 k ≡ 𝟙
  pw_unit zero = refl
  pw_unit (suc k) = one_mul (pw 𝓡 𝟙 k) ∙ pw_unit k

  pub over_start : (d : ℕ) (R₀ : R) → RunOver 𝟙 𝟙 𝟙 d R₀ R₀
  over_start d R₀ = record { is = ap (λ (x : R). 𝟙 * x * R₀) (pw_unit d) }

  -- l^d R₁ = l R₂, the degree as it was
  pub over_elimination : {S P A R₀ R₁ : R} {d : ℕ} (l R₂ : R) → RunOver S P A d R₀ R₁ → pw 𝓡 l d * R₁ ≡ l * R₂ → RunOver S (P * l) A d R₀ R₂
  over_elimination {S} {P} {A} {R₀} {R₁} {d} l R₂ r h = record {
    is = ap (λ (x : R). S * x * R₀) (pw_mul P l d) ∙ first S (pw 𝓡 P d) (pw 𝓡 l d) R₀ ∙ ap (λ (x : R). pw 𝓡 l d * x) r.is
        ∙ second (pw 𝓡 l d) P A R₁ ∙ ap (λ (x : R). P * A * x) h ∙ third P A l R₂;
  }
    where
      first : (s x y z : R) → s * (x * y) * z ≡ y * (s * x * z)
      first s x y z = by_ring 𝓡 (s ∷ x ∷ y ∷ z ∷ []) (search quote depth 20) (search quote depth 20) refl

      second : (x p a z : R) → x * (p * a * z) ≡ p * a * (x * z)
      second x p a z = by_ring 𝓡 (x ∷ p ∷ a ∷ z ∷ []) (search quote depth 20) (search quote depth 20) refl

      third : (p a l z : R) → p * a * (l * z) ≡ p * l * a * z
      third p a l z = by_ring 𝓡 (p ∷ a ∷ l ∷ z ∷ []) (search quote depth 20) (search quote depth 20) refl

  -- one degree less
  pub over_fall : {S P A R₀ R₁ : R} {d : ℕ} → RunOver S P A (suc d) R₀ R₁ → RunOver (S * P) P A d R₀ R₁
  over_fall {S} {P} {A} {R₀} {R₁} {d} r = record { is = elimination S P (pw 𝓡 P d) R₀ ∙ r.is }
    where
      elimination : (s p x z : R) → s * p * x * z ≡ s * (p * x) * z
      elimination s p x z = by_ring 𝓡 (s ∷ p ∷ x ∷ z ∷ []) (search quote depth 20) (search quote depth 20) refl

  -- R₁ = y R₂: a zero lead, y the leading coefficient of the other with its sign
  pub over_drop : {S P A R₀ R₁ : R} {d : ℕ} (y R₂ : R) → RunOver S P A d R₀ R₁ → R₁ ≡ y * R₂ → RunOver S P (A * y) d R₀ R₂
  over_drop {S} {P} {A} {R₀} {R₁} {d} y R₂ r h = record { is = r.is ∙ ap (λ (x : R). P * A * x) h ∙ elimination P A y R₂ }
    where
      elimination : (p a y z : R) → p * a * (y * z) ≡ p * (a * y) * z
      elimination p a y z = by_ring 𝓡 (p ∷ a ∷ y ∷ z ∷ []) (search quote depth 20) (search quote depth 20) refl
