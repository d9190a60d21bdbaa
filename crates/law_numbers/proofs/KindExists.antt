-- Each residue is one of three: S13.
--
--   kind_exists         one kind at least
--   one_kind            a is a unit, nilpotent or splitting, and never two of these
use Rattle.std.specs.Prelude.{◌≡◌, ◌⊎◌, ℕ, zero, suc, ◌*◌, ◌/◌, ◌^◌, ◌<◌, ◌≤◌}
use Rattle.std.proofs.Common.{sym, ap, subst, ◌∙◌, inl, inr, mul-div_cancel, pow-suc, mul_assoc, mul-one, mul_comm, one-mul, zero-mul, pos_of_ne-zero, lt_of_lt_of_le, le-mul_of_pos_right, le_of_lt, arith}
use Rattle.std.specs.Int.{◌∣◌}
use Rattle.std.proofs.Math.Nat.{dvd_refl, dvd_trans, mul-dvd-mul, mod-eq-zero_of_dvd, div-mul_cancel, mul-div_cancel', pow-zero, pos_of_dvd_of_pos, dvd-mul_right, dvd-mul_left, dvd_of_mod-eq-zero, dvd_antisymm, div-lt_self, eq_of_mul-eq-mul_left}
use Rattle.std.proofs.Math.Decide.{dec_lt, ℕ_discrete}
use Rattle.definitions.specs.Residues.{IsUnit, IsNilpotent, Coprime, Splitting}
use Rattle.law_numbers.specs.Congruence.{c_dvd}
use Rattle.law_numbers.specs.Divisors.{IsGcd, GcdCofactor, HasCofactor, bezout_exists, gcd_exists}
use Rattle.law_numbers.specs.Units.{cofactor_inverse, unit_of_coprime, coprime_of_gcd, coprime_of_unit, unit_dvd}
use Rattle.law_numbers.specs.Units.{inverse_times, unit_divides_power}
use Rattle.law_numbers.specs.Coprimality.{coprime_sym, coprime_dvd, coprime_divides, coprime_power}
use Rattle.law_numbers.specs.Kinds.{Parts, parts_start, parts_step, parts_nilpotent, parts_splitting, Splits, ExactlyOne}
use Rattle.law_numbers.specs.Kinds.{unit_not_nilpotent, unit_not_splitting, nilpotent_not_splitting}

module _ {n a : ℕ} where
  -- nothing is left in common, or there is a smaller rest
  round : (m h : ℕ) → Parts n a m h → ((m' h' : ℕ) → m' < m → Parts n a m' h' → IsNilpotent n a ⊎ Splits n a) → Dec (1 < h) → Dec (m ≡ 1)
      → IsNilpotent n a ⊎ Splits n a
  round m h q ih (yes l) e =
      let g = gcd_exists (m / h) a in
      ih (m / h) g.0 (div-lt_self q.positive l) (parts_step q l g.1)
  round m h q ih (no l) (yes e) = inl (parts_nilpotent q e)
  round m h q ih (no l) (no e) = inr (record { n₁ = n / m; n₂ = m; is = parts_splitting q (omega arith) e })

  rounds : (c m h : ℕ) → m < c → Parts n a m h → IsNilpotent n a ⊎ Splits n a
  rounds zero m h l q = absurd (omega arith)
  rounds (suc c) m h l q = round m h q (λ m' h' b q'. rounds c m' h' (omega arith) q') (dec_lt 1 h) (ℕ_discrete m 1)

pub kind_exists : (n a : ℕ) → 2 ≤ n → IsUnit n a ⊎ (IsNilpotent n a ⊎ Splits n a)
kind_exists n a l = pick (ℕ_discrete b.g 1)
  where
    b : HasCofactor n a
    b = bezout_exists n a (le_of_lt l)

    pick : Dec (b.g ≡ 1) → IsUnit n a ⊎ (IsNilpotent n a ⊎ Splits n a)
    pick (yes e) = inl (record { inverse = b.s; is = cofactor_inverse l b.is e })
    pick (no e) =
        let h = gcd_exists (n / b.g) a in
        inr (rounds (suc (n / b.g)) (n / b.g) h.0 (omega arith) (parts_start (le_of_lt l) b.is e h.1))

-- S13: "every residue is one of three"
pub one_kind : (n a : ℕ) → 2 ≤ n → ExactlyOne (IsUnit n a) (IsNilpotent n a) (Splits n a)
one_kind n a l = record {
  one = kind_exists n a l;
  not_ab = unit_not_nilpotent l;
  not_ac = λ u x. unit_not_splitting u x.is;
  not_bc = λ y x. nilpotent_not_splitting y x.is;
}
