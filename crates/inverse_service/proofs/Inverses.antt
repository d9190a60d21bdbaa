-- From the words of the working buffer to the inverse: f as it was loaded, and what comes of `window_factor::series_inverse`, for words of
-- any width.
--
--   inverse_below, one_below, inverse_within, series_room, series_unit     what `window_factor::series_inverse` asks
--   words_wiped, words_inverse                                  what is left
--   inverses                                                    the rules
use mathlib.Core.Path.{◌≡◌, refl, sym, ap, ap₂, subst, ◌∙◌}
use mathlib.Core.List.{List}
use Prim.Native.Nat.{ℕ, zero, suc, ◌+◌, ◌-◌, ◌*◌, ◌%◌, ◌≤◌, ◌<◌}
use native.Mathlib.Nat.{mul_comm}
use native.Mathlib.Omega.{arith}
use lib.ListN.{length, replicate}
use borrow.Author.Rules.{rules}
use Rattle.definitions.specs.Residues.{K, Inverse}
use Rattle.definitions.specs.Polynomials.{coef, deg, constant, tabulate, Residues, UnitPolynomial, InverseOf}
use Rattle.law_polynomials.specs.Words.{total_cong, length_tabulate}
use Rattle.windows.specs.Window.{piece, Loaded}
use Rattle.windows.proofs.Leaf.{piece_at, piece_length}
use Rattle.window_factor.specs.Factors.{Series}
use Rattle.window_factor.proofs.SeriesLaws.{series_exact}
use Rattle.law_polynomial_tests.specs.Buffers.{deg_is}
use Rattle.unit_monic_service.proofs.Parts.{loaded_is, spread}
use Rattle.inverse_service.specs.InverseStages.{InverseAsked}

module _ (n d i m : ℕ) (f w w1 w2 v : List ℕ) (two : 2 ≤ n) (e : d + 1 ≡ length f) (em : m ≡ suc (K n * deg f))
    (fits : length f + m ≤ length w) (rs : Residues n f)
    (up : UnitPolynomial n f) (inv : Inverse n (coef f 0) i) (ld : Loaded n 0 f w w1) (sr : Series n d i m w1 w2)
    (ev : v ≡ tabulate m (coef (piece w2 (d + 1) m))) where
  loaded : piece w1 0 (d + 1) ≡ f
  loaded = loaded_is n d f w w1 e (omega arith) rs ld

  Y : List ℕ
  Y = piece w2 (d + 1) m

  at_v : (k : ℕ) → coef v k ≡ coef Y k
  unfolding Y
  at_v k = ap (λ (p : List ℕ). coef p k) ev ∙ spread m Y (omega
      (arith, piece_length w2 (d + 1) m (omega (arith, sr.around.same, ld.same)))) k

  -- (K - 1) d words and one are enough
  enough : (K n - 1) * d < m
  enough =
      let q : d ≡ deg f = (let z : d ≡ length f - 1 = omega arith in z) ∙ sym (deg_is f) in
      subst (λ (x : ℕ). (K n - 1) * d < x) (sym (em ∙ ap (λ (x : ℕ). suc (K n * x)) (sym q))) (less (K n))
    where
      less : (c : ℕ) → (c - 1) * d < suc (c * d)
      less zero = omega arith
      less (suc c) = let z : suc c - 1 ≡ c = omega arith in rw z (omega arith)

  inverse_of : InverseOf n f v
  unfolding Y
  inverse_of =
      let x = series_exact two sr (subst (UnitPolynomial n) (sym loaded) up) enough in
      record {
        length_w = ap length ev ∙ length_tabulate m (coef Y) ∙ em;
        residues_w = record {
          at = λ k l. let b : k < m = omega (arith, ap length ev, length_tabulate m (coef Y)) in
              subst (λ (y : ℕ). y < n) (sym (at_v k ∙ piece_at w2 (d + 1) m k b)) (sr.below.at k b);
        };
        equation = λ k.
            ap (λ (y : ℕ). y % n) (total_cong (suc k) _ _ (λ j l. ap₂ (λ (a b : ℕ). a * b) (at_v j)
            (ap (λ (p : List ℕ). coef p (k - j)) (sym loaded))))
            ∙ x.equation k ∙ ends k;
      }
    where
      ends : (k : ℕ) → constant (i * coef (piece w1 0 (d + 1)) 0) k % n ≡ constant 1 k % n
      ends zero = ap (λ (p : List ℕ). (i * coef p 0) % n) loaded ∙ ap (λ (y : ℕ). y % n) (mul_comm i (coef f 0)) ∙ inv.one
      ends (suc k) = refl

module _ {n i : ℕ} {f out work : List ℕ} (a : InverseAsked n i f out work) where
  pub inverse_below : {i' n' : ℕ} → i' ≡ i → n' ≡ n → i' < n'
  inverse_below ei en = omega (arith, a.inverse.below, a.modulus)

  pub one_below : {n' : ℕ} → n' ≡ n → 1 < n'
  one_below en = omega (arith, a.modulus)

  pub inverse_within : {i' n' : ℕ} → i' ≡ i → n' ≡ n → i' ≤ n'
  inverse_within ei en = omega (arith, a.inverse.below)

  fits : length f - 1 + 1 ≡ length f
  fits = omega (arith, a.some)

  module _ {w₁ : List ℕ} (ld : Loaded n 0 f work w₁) where
    pub series_room : {x y : ℕ} → x ≡ length f - 1 + 1 + length out → y ≡ length w₁ → x ≤ y
    series_room ex ey = omega (arith, a.some, a.room, ld.same)

    pub series_unit : {n' : ℕ} (j : ℕ) (p : List ℕ) → n' ≡ n → j ≡ i → p ≡ piece w₁ 0 (length f - 1 + 1) → (j * coef p 0) % n' ≡ 1 % n'
    series_unit j p en ej ep =
        rw (en, ej, ep) (ap (λ (p : List ℕ). (i * coef p 0) % n)
        (loaded_is n (length f - 1) f work w₁ fits (omega (arith, a.room)) a.residues ld)
        ∙ ap (λ (x : ℕ). x % n) (mul_comm i (coef f 0)) ∙ a.inverse.one)

    module _ {w₂ : List ℕ} (sr : Series n (length f - 1) i (length out) w₁ w₂) where
      pub words_wiped : {w₃ : List ℕ} → w₃ ≡ replicate (length w₂) 0 → w₃ ≡ replicate (length work) 0
      words_wiped e = e ∙ ap (λ (x : ℕ). replicate x 0) (sr.around.same ∙ ld.same)

      pub words_inverse : {out' : List ℕ} → out' ≡ tabulate (length out) (coef (piece w₂ (length f - 1 + 1) (length out)))
          → InverseOf n f out'
      words_inverse ev =
          inverse_of n (length f - 1) i (length out) f work w₁ w₂ _ a.modulus fits a.length_out a.room a.residues a.unit
          a.inverse ld sr ev

pub ruleset inverses = (rules, inverse_below, one_below, inverse_within, series_room, series_unit, words_wiped, words_inverse)
