-- The resultant under a map of rings, and under a change of what it does not read: over any commutative ring.
--
--   Rs_cong           only the coefficients up to the degrees count
--   series_hom        a map of rings, coefficient by coefficient, is one of their series
--   Rs_hom            a map of rings takes the resultant to that of the images
--
-- Letters: f, g are coefficient sequences of degrees d and e, the constant first; φ is a map of rings.
use Rattle.std.specs.Prelude.{◌≡◌, refl, ℕ, zero, suc, ◌≤◌}
use Rattle.std.proofs.Common.{◌∙◌, ap₂, arith}
use Rattle.std.proofs.Math.Path.{fun_ext}
use Rattle.law_algebra.specs.Resultant.{res, res_hom}
use Rattle.law_algebra.specs.Reverse.{rv, rv_hom}
use Rattle.law_algebra.specs.Ring.{CRing, Hom}
use Rattle.law_algebra.specs.SentLaws.{Rs}
use Rattle.law_algebra.specs.Series.{series, const, conv_hom}

module _ {R : Type 0} (𝓡 : CRing R) where
  -- only the coefficients up to the degrees count
  rv_cong : (d : ℕ) (f g : ℕ → R) → ((i : ℕ) → i ≤ d → f i ≡ g i) → (i : ℕ) → rv 𝓡 d f i ≡ rv 𝓡 d g i
  rv_cong zero f g h zero = h 0 (omega arith)
  rv_cong zero f g h (suc i) = refl
  rv_cong (suc d) f g h zero = h (suc d) (omega arith)
  rv_cong (suc d) f g h (suc i) = rv_cong d f g (λ i l. h i (omega arith)) i

  pub Rs_cong : (d e : ℕ) (f f' g g' : ℕ → R) → ((i : ℕ) → i ≤ d → f i ≡ f' i) → ((i : ℕ) → i ≤ e → g i ≡ g' i)
      → Rs 𝓡 d e f g ≡ Rs 𝓡 d e f' g'
  Rs_cong d e f f' g g' h k = ap₂ (res 𝓡 e d) (fun_ext (rv_cong d f f' h)) (fun_ext (rv_cong e g g' k))

-- a map of rings, coefficient by coefficient
pub series_hom : {R S : Type 0} (𝓡 : CRing R) (𝓢 : CRing S) (φ : R → S) → Hom 𝓡 𝓢 φ → Hom (series 𝓡) (series 𝓢) (λ f k. φ (f k))
series_hom {R} {S} 𝓡 𝓢 φ H = record {
  h_add = λ f g. fun_ext (λ k. H.h_add (f k) (g k));
  h_mul = λ f g. fun_ext (conv_hom 𝓡 𝓢 φ H f g);
  h_neg = λ f. fun_ext (λ k. H.h_neg (f k));
  h_zero = fun_ext (λ k. H.h_zero);
  h_one = fun_ext ones;
}
  where
    ones : (k : ℕ) → φ (const 𝓡 𝓡.unit k) ≡ const 𝓢 𝓢.unit k
    ones zero = H.h_one
    ones (suc k) = H.h_zero

pub Rs_hom : {R S : Type 0} (𝓡 : CRing R) (𝓢 : CRing S) (φ : R → S) → Hom 𝓡 𝓢 φ → (d e : ℕ) (f g : ℕ → R)
    → φ (Rs 𝓡 d e f g) ≡ Rs 𝓢 d e (λ i. φ (f i)) (λ i. φ (g i))
Rs_hom 𝓡 𝓢 φ H d e f g =
    res_hom 𝓡 𝓢 φ H e d (rv 𝓡 d f) (rv 𝓡 e g) ∙ ap₂ (res 𝓢 e d) (fun_ext (rv_hom 𝓡 𝓢 φ H d f)) (fun_ext (rv_hom 𝓡 𝓢 φ H e g))
