-- -1 over a unit polynomial, after it, at any width.
--
--   logarithm_positive, inverse_within, …-fits    the words of the inverse, and their place
--   negate-…                                      what the series asks, and what comes of it
--   negations                                     the rules
use mathlib.Core.Path.{◌≡◌, refl, sym, ap, ap₂, subst, ◌∙◌}
use mathlib.Core.List.{List}
use Prim.Native.Nat.{ℕ, zero, suc, ◌+◌, ◌-◌, ◌*◌, ◌%◌, ◌^◌, ◌≤◌, ◌<◌}
use native.Mathlib.Omega.{arith}
use native.Mathlib.Nat.{mul_comm, mul-zero, add-zero, add_assoc, mod-eq_of_lt, mul-le-mul_right, zero-mod, mul-mod_right}
use mir.Syntax.{w64}
use mir.Val.{Fits}
use borrow.Author.Rules.{rules}
use lib.ListN.{length, get_or}
use borrow.Rule.Slice.PartMut.{put_mid, mid_of}
use Rattle.definitions.specs.Residues.{K, Inverse, IsUnit}
use Rattle.definitions.specs.Polynomials.{coef, constant, convolve, UnitPolynomial}
use Rattle.law_numbers.specs.Congruence.{Cong, c_refl, c_sym, c_trans, c_eq, c_add, c_mul}
use Rattle.law_numbers.specs.Divisors.{GcdCofactor}
use Rattle.law_numbers.specs.Logarithm.{K_positive}
use Rattle.law_numbers.specs.Units.{cofactor_inverse, coprime_of_unit, gcd_of_coprime}
use Rattle.windows.specs.Window.{piece, Below, Around}
use Rattle.windows.proofs.Leaf.{piece_at}
use Rattle.windows.proofs.Lift.{mid_length, piece_mid, piece_put, lift_around, lift_below}
use Rattle.window_factor.specs.Factors.{Series}
use Rattle.window_factor.proofs.SeriesLaws.{SeriesInverse, series_exact}
use Rattle.law_multipliers.specs.Multipliers.{NegatedInverse}
use Rattle.reduced_units.specs.Factorings.{Negated}

-- the words of the inverse are no more than K k + 1
inverse_length : (ν κ k : ℕ) → κ ≡ K ν → (κ - 1) * k ≤ K ν * k
inverse_length ν κ k e = mul-le-mul_right k (omega arith)

pub logarithm_positive : (ν κ : ℕ) → κ ≡ K ν → 2 ≤ ν → 1 ≤ κ
logarithm_positive ν κ e l = omega (arith, K_positive ν l)

pub inverse_within : (ν x k κ : ℕ) (w : List ℕ) → κ ≡ K ν → x + (k + 1) + (K ν * k + 1) ≤ length w
    → x + (k + 1) + ((κ - 1) * k + 1) ≤ length w
inverse_within ν x k κ w e h = omega (arith, inverse_length ν κ k e)

-- and they fit, as a slice's words do
module _ (ν x k κ : ℕ) (w : List ℕ) (is_κ : κ ≡ K ν) (fits : x + (k + 1) + (K ν * k + 1) ≤ length w) (top : length w < 2 ^ 64) where
  pub product_fits : Fits w64 ((κ - 1) * k)
  product_fits = record { fits = omega (arith, inverse_length ν κ k is_κ) }

  pub length_fits : Fits w64 ((κ - 1) * k + 1)
  length_fits = record { fits = omega (arith, inverse_length ν κ k is_κ) }

  pub end_fits : Fits w64 (x + (k + 1) + ((κ - 1) * k + 1))
  end_fits = record { fits = omega (arith, inverse_length ν κ k is_κ) }

module _ (ν x k κ g s : ℕ) (w : List ℕ) (is_κ : κ ≡ K ν) (two : 2 ≤ ν) (fits : x + (k + 1) + (K ν * k + 1) ≤ length w)
    (up : UnitPolynomial ν (piece w x (k + 1))) (co : GcdCofactor ν (get_or w x 0) g s) where
  -- the words that are lent
  abbrev m : ℕ
  m = x + (k + 1) + ((κ - 1) * k + 1) - x

  inside : x + m ≤ length w
  inside = omega (arith, inverse_length ν κ k is_κ)

  first : coef (piece w x (k + 1)) 0 ≡ get_or w x 0
  first = piece_at w x (k + 1) 0 (omega arith) ∙ ap (λ (y : ℕ). get_or w y 0) (add-zero x)

  one : g ≡ 1
  one = gcd_of_coprime (coprime_of_unit (subst (IsUnit ν) first up.unit)) co.gcd

  inverse : Inverse ν (get_or w x 0) s
  inverse = cofactor_inverse two co one

  positive : 1 ≤ s
  positive = go s inverse.one
    where
      go : (s : ℕ) → (get_or w x 0 * s) % ν ≡ 1 % ν → 1 ≤ s
      go zero h = let z : ◌≡◌ {A = ℕ} 0 1 = sym (zero-mod ν) ∙ ap (λ (y : ℕ). y % ν) (sym (mul-zero (get_or w x 0))) ∙ h
          ∙ mod-eq_of_lt two in absurd (omega arith)
      go (suc s) h = omega arith

  mid_first : piece (mid_of x m w) 0 (k + 1) ≡ piece w x (k + 1)
  mid_first = piece_mid x m w inside 0 (k + 1) (omega arith) ∙ ap (λ (y : ℕ). piece w y (k + 1)) (add-zero x)

  pub negate_small : ν - s < ν
  negate_small = omega (arith, positive)

  pub negate_room : k + 1 + ((κ - 1) * k + 1) ≤ length (mid_of x m w)
  negate_room = omega (arith, mid_length x m w inside)

  one_unit : (s * coef (piece (mid_of x m w) 0 (k + 1)) 0) % ν ≡ 1 % ν
  one_unit = ap (λ (f : List ℕ). (s * coef f 0) % ν) mid_first ∙ ap (λ (y : ℕ). y % ν)
      (ap (λ (y : ℕ). s * y) first ∙ mul_comm s (get_or w x 0)) ∙ inverse.one

  pub negate_unit : (ν' s' k' : ℕ) (f : List ℕ) → ν' ≡ ν → s' ≡ s → k' ≡ k → f ≡ mid_of x m w
      → (s' * coef (piece f 0 (k' + 1)) 0) % ν' ≡ 1 % ν'
  negate_unit ν' s' k' f en es ek ef = rw (en, es, ek, ef) one_unit

  -- (ν - s) U_0 + 1 is 0
  minus : ((ν - s) * coef (piece (mid_of x m w) 0 (k + 1)) 0 + 1) % ν ≡ 0
  minus =
      (c_trans (c_add (c_refl {a = (ν - s) * U}) (c_sym (record { same = one_unit })))
      (c_trans (c_eq {b = ν * U} (sums (ν - s) (omega (arith, co.at_most))))
      (record { same = mul-mod_right ν U ∙ sym (zero-mod ν) }))).same ∙ zero-mod ν
    where
      U : ℕ
      U = coef (piece (mid_of x m w) 0 (k + 1)) 0

      spread : (r U : ℕ) → r * U + s * U ≡ (r + s) * U
      spread r U = omega arith

      sums : (r : ℕ) → r + s ≡ ν → r * U + s * U ≡ ν * U
      sums r e = spread r U ∙ ap (λ (y : ℕ). y * U) e

  pub negate_done : (ys : List ℕ) → length ys ≡ length (mid_of x m w) → Series ν k (ν - s) ((κ - 1) * k + 1) (mid_of x m w) ys
      → Negated ν x k ((κ - 1) * k + 1) w (put_mid x m w ys)
  negate_done ys ly sr = record {
    is_len = ap (λ (y : ℕ). (y - 1) * k + 1) is_κ;
    around = lift_around x m w inside ys ly (k + 1) ((κ - 1) * k + 1) (omega arith) sr.around;
    below = lift_below x m w inside ys ly ν (k + 1) ((κ - 1) * k + 1) (omega arith) sr.below;
    inverse = subst (λ (u : List ℕ). NegatedInverse ν u (piece (put_mid x m w ys) (x + (k + 1)) ((κ - 1) * k + 1))) mid_first
        (subst (λ (j : List ℕ). NegatedInverse ν (piece (mid_of x m w) 0 (k + 1)) j)
        (sym (piece_put x m w inside ys ly (k + 1) ((κ - 1) * k + 1) (omega arith))) (record { at = go }));
  }
    where
      exact : SeriesInverse ν k (ν - s) (piece (mid_of x m w) 0 (k + 1)) (piece ys (k + 1) ((κ - 1) * k + 1))
      exact = series_exact two sr (subst (UnitPolynomial ν) (sym mid_first) up)
          (subst (λ (y : ℕ). (y - 1) * k < (κ - 1) * k + 1) is_κ (omega arith))

      go : (j : ℕ) → (convolve (coef (piece ys (k + 1) ((κ - 1) * k + 1))) (coef (piece (mid_of x m w) 0 (k + 1))) j + constant 1 j) % ν ≡ 0
      go zero = (c_trans (c_add (record { same = exact.equation 0 }) (c_refl {a = 1})) (record { same = minus ∙ sym (zero-mod ν) })).same
          ∙ zero-mod ν
      go (suc j) = (c_trans (c_add (record { same = exact.equation (suc j) }) (c_refl {a = 0})) (c_eq (add-zero 0))).same ∙ zero-mod ν

pub ruleset lengths = (logarithm_positive, inverse_within, product_fits, length_fits, end_fits)

pub ruleset negations = (rules, lengths, negate_small, negate_room, negate_unit, negate_done)
