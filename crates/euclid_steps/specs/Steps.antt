-- One step of Euclid without inverses, and the same step backwards: from what the pair after it combine to, to what the pair before do.
--
--   exchanged, stayed     the laws over any ring
--   Mixture n l q x y z   z = l y + q x modulo n
--   Added n K q x y z     z = y + K q x modulo n
--   Bound n F G K β γ C   C is β F + K γ G modulo n
--   two m c               m + c x, a quotient of two words
--   convolve_two          its product with a polynomial
--   Falls                 what a step makes of the degrees
--   Moves                 the step: F and G come to F' and G'
--   Lifts                 the same backwards: β', γ' and K' come to β, γ and K
--   bound_lifted          one step backwards keeps the combination
--
-- Letters: F, G are the pair before a step, F', G' the pair after; y is what G is multiplied by, k and c are the words of the quotient.
use Rattle.std.specs.Prelude.{◌≡◌, refl, List, [], ◌∷◌, Bool, true, false, ◌⊎◌, ℕ, zero, suc, ◌≤◌, ◌%◌, ◌+◌ as ◌+ℕ◌, ◌*◌ as ◌*ℕ◌, pos}
use Rattle.std.proofs.Common.{sym, ◌∙◌, ap, ap₂, subst, arith}
use Rattle.std.proofs.Math.Path.{fun_ext}
use native.Mathlib.Fin
use Rattle.definitions.specs.Polynomials.{coef, convolve, constant}
use Rattle.law_algebra.specs.Normaliser.{by_ring, quote}
use Rattle.law_algebra.specs.Reduction.{reduce_hom}
use Rattle.law_algebra.specs.Residues.{Res, toRes, Res_ring}
use Rattle.law_algebra.specs.Ring.{CRing}
use Rattle.law_algebra.specs.Series.{series, conv, const, conv_const}
use Rattle.law_polynomials.specs.Words.{convolve_is}
use Rattle.windows.specs.Window.{behind}
use Rattle.window_division.proofs.DivisionRounds.{spot, risen, risen_at, risen_low, convolve_add, convolve_spot}

module _ {R : Type 0} (𝓡 : CRing R) where
  open 𝓡 use {add as ◌+◌, mul as ◌*◌}

  infixl 65 ◌+◌
  infixl 70 ◌*◌
  -- the step made F' of G, and F is kept
  pub exchanged : {F G F' β γ B C q y K : R} → F' ≡ y * G + q * F → B ≡ K * γ + q * β → β * F' + K * (γ * F) ≡ C → B * F + y * (β * G) ≡ C
  exchanged {F} {G} {F'} {β} {γ} {B} {C} {q} {y} {K} hf hb h =
      ap (λ (x : R). x * F + y * (β * G)) hb ∙ elimination F G β γ q y K ∙ ap (λ (x : R). β * x + K * (γ * F)) (sym hf) ∙ h
    where
      elimination : (F G β γ q y K : R) → (K * γ + q * β) * F + y * (β * G) ≡ β * (y * G + q * F) + K * (γ * F)
      elimination F G β γ q y K = by_ring 𝓡 (F ∷ G ∷ β ∷ γ ∷ q ∷ y ∷ K ∷ []) (search quote depth 20) (search quote depth 20) refl

  -- the step made G' of G, and F is as it was
  pub stayed : {F G G' β γ B C q y K L : R} → G' ≡ y * G + q * F → B ≡ β + K * (q * γ) → L ≡ y * K → β * F + K * (γ * G') ≡ C
      → B * F + L * (γ * G) ≡ C
  stayed {F} {G} {G'} {β} {γ} {B} {C} {q} {y} {K} {L} hg hb hl h =
      ap₂ (λ (x z : R). x * F + z * (γ * G)) hb hl ∙ elimination F G β γ q y K ∙ ap (λ (x : R). β * F + K * (γ * x)) (sym hg) ∙ h
    where
      elimination : (F G β γ q y K : R) → (β + K * (q * γ)) * F + y * K * (γ * G) ≡ β * F + K * (γ * (y * G + q * F))
      elimination F G β γ q y K = by_ring 𝓡 (F ∷ G ∷ β ∷ γ ∷ q ∷ y ∷ K ∷ []) (search quote depth 20) (search quote depth 20) refl

-- z = l y + q x
pub record Mixture (n l : ℕ) (q x y z : ℕ → ℕ) : Type 0 where
  pub at : (k : ℕ) → z k % n ≡ (l *ℕ y k +ℕ convolve q x k) % n

-- z = y + K q x
pub record Added (n K : ℕ) (q x y z : ℕ → ℕ) : Type 0 where
  pub at : (k : ℕ) → z k % n ≡ (y k +ℕ K *ℕ convolve q x k) % n

-- C is β F + K γ G
pub record Bound (n : ℕ) (F G : ℕ → ℕ) (K : ℕ) (β γ : ℕ → ℕ) (C : ℕ) : Type 0 where
  pub at : (k : ℕ) → (convolve β F k +ℕ K *ℕ convolve γ G k) % n ≡ constant C k % n

-- m + c x
pub two : ℕ → ℕ → ℕ → ℕ
two m c i = spot 1 c i +ℕ spot 0 m i

pub convolve_two : (m c : ℕ) (F : ℕ → ℕ) (k : ℕ) → convolve (two m c) F k ≡ c *ℕ behind F k +ℕ m *ℕ F k
unfolding two
convolve_two m c F k =
    convolve_add (spot 1 c) (spot 0 m) F k ∙ ap₂ (λ (x y : ℕ). x +ℕ y) (convolve_spot 1 c F k) (convolve_spot 0 m F k)
    ∙ ap₂ (λ (x y : ℕ). c *ℕ x +ℕ m *ℕ y) (before k) (risen_at 0 F k k (omega arith))
  where
    before : (k : ℕ) → risen 1 F k ≡ behind F k
    before zero = risen_low 1 F 0 (omega arith)
    before (suc k) = risen_at 1 F (suc k) k (omega arith)

-- what becomes of the degrees d and e, by whether the two are exchanged
abbrev pub Falls : ℕ → ℕ → ℕ → ℕ → ℕ → Bool → Type 0
Falls d e d' e' c true = ((e ≡ d +ℕ 1) ⊎ ((e ≡ d) × (c ≡ 0))) × ((d' +ℕ 1 ≡ d) × (e' ≡ d))
Falls d e d' e' c false = (1 ≤ e') × (((d' ≡ d) × (e' +ℕ 1 ≡ e)) ⊎ ((d' +ℕ 1 ≡ d) × (e' ≡ e)))

-- the step, by whether the two are exchanged; i is the difference of their degrees
abbrev pub Moves : ℕ → ℕ → (ℕ → ℕ) → (ℕ → ℕ) → (ℕ → ℕ) → (ℕ → ℕ) → ℕ → ℕ → ℕ → Bool → Type 0
Moves n i F G F' G' y c k true = (Mixture n y (two k c) F G F') × (G' ≡ F)
Moves n i F G F' G' y c k false = (F' ≡ F) × (Mixture n y (spot i k) F G G')

abbrev pub Lifts : ℕ → ℕ → ℕ → (ℕ → ℕ) → (ℕ → ℕ) → ℕ → (ℕ → ℕ) → (ℕ → ℕ) → ℕ → ℕ → ℕ → Bool → Type 0
Lifts n i K β γ K' β' γ' y c k true = (Mixture n K' (two k c) β' γ' β) × ((γ ≡ β') × (K ≡ y))
Lifts n i K β γ K' β' γ' y c k false = (Added n K' (spot i k) γ' β' β) × ((γ ≡ γ') × (K % n ≡ (y *ℕ K') % n))

module _ (m : ℕ) where
  abbrev residues : (ℕ → ℕ) → ℕ → Res m
  residues x k = toRes m (x k)

  abbrev number : ℕ → ℕ → Res m
  number x = const (Res_ring m) (toRes m x)

  infixl 70 ◌·◌
  abbrev ◌·◌ : (ℕ → Res m) → (ℕ → Res m) → ℕ → Res m
  x · y = conv (Res_ring m) x y

  sum_is : (x y : ℕ) → toRes m (x +ℕ y) ≡ (Res_ring m).add (toRes m x) (toRes m y)
  sum_is x y = (reduce_hom m).h_add (pos x) (pos y)

  scaled_is : (K : ℕ) (q x : ℕ → ℕ) (k : ℕ) → toRes m (K *ℕ convolve q x k) ≡ (number K · (residues q · residues x)) k
  scaled_is K q x k = (reduce_hom m).h_mul (pos K) (pos (convolve q x k)) ∙ ap ((Res_ring m).mul (toRes m K)) (convolve_is m q x k)
      ∙ sym (conv_const (Res_ring m) (toRes m K) (residues q · residues x) k)

  mixture_is : (l : ℕ) (q x y z : ℕ → ℕ) → Mixture (suc m) l q x y z
      → residues z ≡ (λ (k : ℕ). (Res_ring m).add ((number l · residues y) k) ((residues q · residues x) k))
  mixture_is l q x y z h = fun_ext (λ k.
      Fin.val_path (h.at k) ∙ sum_is (l *ℕ y k) (convolve q x k)
      ∙ ap₂ (Res_ring m).add ((reduce_hom m).h_mul (pos l) (pos (y k)) ∙ sym (conv_const (Res_ring m) (toRes m l) (residues y) k))
      (convolve_is m q x k))

  added_is : (K : ℕ) (q x y z : ℕ → ℕ) → Added (suc m) K q x y z
      → residues z ≡ (λ (k : ℕ). (Res_ring m).add (residues y k) ((number K · (residues q · residues x)) k))
  added_is K q x y z h = fun_ext (λ k.
      Fin.val_path (h.at k) ∙ sum_is (y k) (K *ℕ convolve q x k) ∙ ap ((Res_ring m).add (residues y k)) (scaled_is K q x k))

  bound_is : (F G : ℕ → ℕ) (K : ℕ) (β γ : ℕ → ℕ) (C : ℕ) → Bound (suc m) F G K β γ C
      → (λ (k : ℕ). (Res_ring m).add ((residues β · residues F) k) ((number K · (residues γ · residues G)) k)) ≡ residues (constant C)
  bound_is F G K β γ C h = fun_ext (λ k.
      sym (sum_is (convolve β F k) (K *ℕ convolve γ G k) ∙ ap₂ (Res_ring m).add (convolve_is m β F k) (scaled_is K γ G k))
      ∙ Fin.val_path (h.at k))

  is_bound : (F G : ℕ → ℕ) (K : ℕ) (β γ : ℕ → ℕ) (C : ℕ)
      → (λ (k : ℕ). (Res_ring m).add ((residues β · residues F) k) ((number K · (residues γ · residues G)) k)) ≡ residues (constant C)
      → Bound (suc m) F G K β γ C
  is_bound F G K β γ C h = record {
    at = λ k. ap (λ (x : Res m). x.0)
        (sum_is (convolve β F k) (K *ℕ convolve γ G k) ∙ ap₂ (Res_ring m).add (convolve_is m β F k) (scaled_is K γ G k)
        ∙ ap (λ (s : ℕ → Res m). s k) h);
  }

  exchanged_at : (F G F' β γ B q : ℕ → ℕ) (y K C : ℕ) → Mixture (suc m) y q F G F' → Mixture (suc m) K q β γ B
      → Bound (suc m) F' F K β γ C → Bound (suc m) F G y B β C
  exchanged_at F G F' β γ B q y K C hf hb h =
      is_bound F G y B β C (exchanged (series (Res_ring m)) {γ = residues γ} {q = residues q} {y = number y} {K = number K}
      (mixture_is y q F G F' hf) (mixture_is K q β γ B hb)
      (bound_is F' F K β γ C h))

  product_is : (L y K : ℕ) → L % suc m ≡ (y *ℕ K) % suc m → number L ≡ number y · number K
  product_is L y K h = ap (const (Res_ring m)) (Fin.val_path h ∙ (reduce_hom m).h_mul (pos y) (pos K))
      ∙ sym (Rattle.law_algebra.specs.Series.const_mul (Res_ring m) (toRes m y) (toRes m K))

  stayed_at : (F G G' β γ B q : ℕ → ℕ) (y K L C : ℕ) → Mixture (suc m) y q F G G' → Added (suc m) K q γ β B → L % suc m ≡ (y *ℕ K) % suc m
      → Bound (suc m) F G' K β γ C → Bound (suc m) F G L B γ C
  stayed_at F G G' β γ B q y K L C hg hb hl h =
      is_bound F G L B γ C (stayed (series (Res_ring m)) {β = residues β} {γ = residues γ} {q = residues q} {y = number y} {K = number K}
      (mixture_is y q F G G' hg) (added_is K q γ β B hb)
      (product_is L y K hl) (bound_is F G' K β γ C h))

-- one step backwards keeps the combination
pub bound_lifted : (n i : ℕ) → 1 ≤ n → (F G F' G' β γ β' γ' : ℕ → ℕ) (K K' y c k C : ℕ) (b : Bool) → Moves n i F G F' G' y c k b
    → Lifts n i K β γ K' β' γ' y c k b → Bound n F' G' K' β' γ' C → Bound n F G K β γ C
bound_lifted zero i le F G F' G' β γ β' γ' K K' y c k C b mv lf h = absurd (omega arith)
bound_lifted (suc m) i le F G F' G' β γ β' γ' K K' y c k C true mv lf h =
    subst (λ (x : ℕ). Bound (suc m) F G x β γ C) (sym lf.1.1)
    (subst (λ (x : ℕ → ℕ). Bound (suc m) F G y β x C) (sym lf.1.0)
    (exchanged_at m F G F' β' γ' β (two k c) y K' C mv.0 lf.0 (subst (λ (x : ℕ → ℕ). Bound (suc m) F' x K' β' γ' C) mv.1 h)))
bound_lifted (suc m) i le F G F' G' β γ β' γ' K K' y c k C false mv lf h =
    subst (λ (x : ℕ → ℕ). Bound (suc m) F G K β x C) (sym lf.1.0)
    (stayed_at m F G G' β' γ' β (spot i k) y K' K C mv.1 lf.0 lf.1.1
    (subst (λ (x : ℕ → ℕ). Bound (suc m) x G' K' β' γ' C) mv.0 h))
