-- One division in the buffer: both polynomials are reduced modulo m, and then divided.
--
--   piece_mod               words that agree modulo m make pieces that do
--   unit_same               what agrees with a unit modulo m is a unit
--   pair, sizes, inverse    what the division asks
--   stepped                 what is left
--   steps                   the rules
use mathlib.Core.Path.{◌≡◌, refl, sym, ap, subst, ◌∙◌, fun_ext}
use mathlib.Core.List.{List}
use mathlib.Core.Logic.{⊎_elim}
use Prim.Native.Nat.{ℕ, ◌+◌, ◌*◌, ◌%◌, ◌<◌, ◌≤◌}
use native.Mathlib.Nat.{mod-lt, mod-mod}
use native.Mathlib.Omega.{arith}
use borrow.Author.Rules.{rules}
use lib.ListN.{get_or}
use Rattle.definitions.specs.Residues.{IsUnit}
use Rattle.definitions.specs.Polynomials.{coef, convolve, tabulate}
use Rattle.law_numbers.specs.Congruence.{c_refl, c_trans, c_mul}
use Rattle.law_numbers.specs.Divisors.{GcdCofactor}
use Rattle.law_numbers.specs.Units.{unit_of, inverse_times, gcd_of_coprime, coprime_of_unit}
use Rattle.law_polynomials.specs.ReachedSteps.{plus_mod, convolve_mod, coef_whole}
use Rattle.windows.specs.Window.{piece, Moved, reduced_by}
use Rattle.windows.proofs.Leaf.{piece_at, piece_over, apart_at, lt_or_le}
use Rattle.windows.proofs.Lift.{moved_around}
use Rattle.window_division.specs.Remainders.{DivisionLengthsAsked, Pair, Remainder}
use Rattle.common_factor.specs.Searches.{StepAsked, ResiduesAt, Stepped}

pub piece_mod : (m : ℕ) (w w' : List ℕ) (a l : ℕ) → ((i : ℕ) → i < l → get_or w' (a + i) 0 % m ≡ get_or w (a + i) 0 % m) → (k : ℕ)
    → coef (piece w' a l) k % m ≡ coef (piece w a l) k % m
piece_mod m w w' a l h k = ⊎_elim
    (λ (p : k < l). ap (λ (x : ℕ). x % m) (piece_at w' a l k p) ∙ h k p ∙ ap (λ (x : ℕ). x % m) (sym (piece_at w a l k p)))
    (λ (p : l ≤ k). ap (λ (x : ℕ). x % m) (piece_over w' a l k p ∙ sym (piece_over w a l k p))) (lt_or_le k l)

pub unit_same : (m x y : ℕ) → 1 ≤ m → y % m ≡ x % m → IsUnit m x → IsUnit m y
unit_same m x y l e u = unit_of u.inverse l (c_trans (c_mul (c_refl {a = u.inverse}) (record { same = e })) (inverse_times u))

pub residues_at : {m a d b e : ℕ} {w w₁ w₂ : List ℕ} → StepAsked m a d b e w → Moved (reduced_by m) a a (d + 1) w w₁
    → Moved (reduced_by m) b b (e + 1) w₁ w₂ → ResiduesAt m a d b e w w₂
residues_at {m} s h₁ h₂ = record {
  same = h₂.same ∙ h₁.same;
  first = λ i l. apart_at (record { ok = λ x y p q e. s.apart.ok y x q p (sym e) }) (moved_around h₂) i l ∙ h₁.mid i l;
  second = λ i l. h₂.mid i l ∙ ap (λ (x : ℕ). x % m) (apart_at s.apart (moved_around h₁) i l);
}

module _ {m a d b e : ℕ} {w w₂ : List ℕ} (s : StepAsked m a d b e w) (h : ResiduesAt m a d b e w w₂) where
  pos : 1 ≤ m
  pos = omega (arith, s.two)

  below : (x y : ℕ) → x ≡ y % m → x < m
  below x y p = subst (λ (z : ℕ). z < m) (sym p) (mod-lt y pos)

  pub pair : Pair m b e a d w₂
  pair = record {
    first = record { at = λ k l. below _ (get_or w (b + k) 0) (h.second k l) };
    second = record { at = λ k l. below _ (get_or w (a + k) 0) (h.first k l) };
    apart = s.apart;
  }

  again : (x y : ℕ) → x ≡ y % m → x % m ≡ y % m
  again x y p = ap (λ (z : ℕ). z % m) p ∙ mod-mod y m

  pub sizes : DivisionLengthsAsked m b e a d w₂
  sizes = record {
    modulus = pos;
    degree = s.one;
    near = s.near;
    divisor = omega (arith, h.same, s.second);
    dividend = omega (arith, h.same, s.first);
  }

  pub inverse : {g i : ℕ} → GcdCofactor m (get_or w₂ (b + e) 0) g i → (i * get_or w₂ (b + e) 0) % m ≡ 1 % m
  inverse c = c.bezout ∙ ap (λ (x : ℕ). x % m) (gcd_of_coprime (coprime_of_unit unit) c.gcd)
    where
      unit : IsUnit m (get_or w₂ (b + e) 0)
      unit = unit_same m (get_or w (b + e) 0) (get_or w₂ (b + e) 0) pos (again _ _ (h.second e (omega arith))) s.unit

  pub stepped : {w₃ : List ℕ} → Remainder m b e a d w₂ w₃ → Stepped m a d b e w w₃
  stepped {w₃} r = record {
    same = r.around.same ∙ h.same;
    divisor = piece_mod m w w₃ b (e + 1) (λ i l. ap (λ (x : ℕ). x % m) (apart_at s.apart r.around i l)
        ∙ again _ _ (h.second i l));
    quotient = tabulate (d + 1) r.q;
    divided = record {
      at = λ k.
          plus_mod m _ _ (coef (piece w₃ a e) k) (coef (piece w₃ a e) k)
          (ap (λ (u : ℕ → ℕ). convolve u (coef (piece w b (e + 1))) k % m) words
          ∙ convolve_mod m pos r.q r.q (coef (piece w b (e + 1))) (coef (piece w₂ b (e + 1))) (λ _. refl)
          (λ j. sym (piece_mod m w w₂ b (e + 1) (λ i l. again _ _ (h.second i l)) j)) k) refl
          ∙ r.at k ∙ piece_mod m w w₂ a (d + 1) (λ i l. again _ _ (h.first i l)) k;
    };
  }
    where
      words : coef (tabulate (d + 1) r.q) ≡ r.q
      words = fun_ext (λ k. coef_whole (d + 1) r.q (λ i l. r.top i (omega arith)) k)

pub ruleset steps = (rules, residues_at, pair, sizes, inverse, stepped)
