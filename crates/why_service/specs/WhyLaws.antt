-- What the answer of the service says of D, and the grounds at numbers of document 01.
--
--   coprime_exactly    coprime is answered exactly when D is 1
--   row_common         modulo 6, 5,0,1 and 3,1 have D = 2, and 1,1 divides both modulo 2
--   row_zero           modulo 10, 0,0 and 0 have D = 10, and both are zero modulo 10
--   no_constant        a constant is no common divisor
use Rattle.std.specs.Prelude.{◌≡◌, refl, List, [], ◌∷◌, ℕ, zero, suc, ◌≤◌, ◌<◌, ◌%◌, take, replicate}
use Rattle.std.proofs.Common.{ap, subst, arith}
use Rattle.std.specs.Int.{◌∣◌}
use Rattle.std.proofs.Math.Nat.{dvd-zero, dvd_refl, dvd_of_mod-eq-zero, eq-one_of_dvd-one}
use Rattle.definitions.specs.Resultants.{Reduced}
use Rattle.definitions.specs.Polynomials.{coef}
use Rattle.law_polynomials.specs.Computed.{multiplied_by, below_by}
use Rattle.law_polynomials.specs.ReachedLaws.{reduced_unique}
use Rattle.convolution.specs.Sums.{zeros_at}
use Rattle.why_service.specs.WhyService.{NamedDivisor, GroundHolds, HoldsReason, CommonDivisor, BothZero}

-- a divisor of D above 1 is named for every ground but that they are coprime
not_one : {n D m : ℕ} → NamedDivisor n D m → D ≡ 1 → ⊥
not_one {n} {D} {m} x e = let a : 1 < m = x.above in
    let b : m ≡ 1 = eq-one_of_dvd-one (subst (λ (y : ℕ). m ∣ y) e x.divides_D) in omega arith

only_coprime : (k n D : ℕ) (f g h : List ℕ) (m t : ℕ) → GroundHolds k n D f g h m t → D ≡ 1 → k ≡ 0
only_coprime zero n D f g h m t x e = refl
only_coprime (suc zero) n D f g h m t x e = absurd (not_one x.modulus e)
only_coprime (suc (suc zero)) n D f g h m t x e = absurd (not_one x.modulus e)
only_coprime (suc (suc (suc k))) n D f g h m t x e = absurd x

is_one : (k n D : ℕ) (f g h : List ℕ) (m t : ℕ) → GroundHolds k n D f g h m t → k ≡ 0 → D ≡ 1
is_one zero n D f g h m t x e = x.one
is_one (suc k) n D f g h m t x e = absurd (omega arith)

-- "answers 'coprime' exactly when D is 1"
pub coprime_exactly : {n : ℕ} {f g w w' : List ℕ} {k m t : ℕ} → 1 ≤ n → HoldsReason n f g w w' k m t
    → (k ≡ 0 → Reduced n f g 1) × (Reduced n f g 1 → k ≡ 0)
coprime_exactly {n} {f} {g} {w} {w'} {k} {m} {t} l r = (
  λ e. subst (Reduced n f g) (is_one k n r.D f g (take 49 w') m t r.holds e) r.reduced,
  λ x. only_coprime k n r.D f g (take 49 w') m t r.holds (reduced_unique l r.reduced x),
)

-- ---- at numbers

above_one : (k : ℕ) → 1 < k → coef (1 ∷ 1 ∷ replicate 47 0) k % 2 ≡ 0
above_one zero l = absurd (omega arith)
above_one (suc zero) l = absurd (omega arith)
above_one (suc (suc k)) l = ap (λ (x : ℕ). x % 2) (zeros_at 47 k)

row_common : CommonDivisor 6 2 (5 ∷ 0 ∷ 1 ∷ []) (3 ∷ 1 ∷ []) (1 ∷ 1 ∷ replicate 47 0) 2 1
row_common = record {
  modulus = record { divides_n = dvd_of_mod-eq-zero 2 refl; above = omega arith; divides_D = dvd_refl 2 };
  some = omega arith;
  residues = below_by 2 _ tt;
  monic = record { lead = refl; above = above_one };
  first = record { quotient = 1 ∷ 1 ∷ []; equation = multiplied_by 2 _ _ _ tt };
  second = record { quotient = 1 ∷ []; equation = multiplied_by 2 _ _ _ tt };
}

-- "m above 1", "of degree at least 1"
no_constant : (n D m : ℕ) (f g h : List ℕ) → CommonDivisor n D f g h m 0 → ⊥
no_constant n D m f g h x = let z : 1 ≤ 0 = x.some in omega arith

row_zero : BothZero 10 10 (0 ∷ 0 ∷ []) (0 ∷ []) (replicate 49 0) 10 0
row_zero = record {
  modulus = record { divides_n = dvd_refl 10; above = omega arith; divides_D = dvd_refl 10 };
  first = record { at = elim [ zero ↦ dvd-zero 10 | suc zero ↦ dvd-zero 10 | suc (suc k) ↦ dvd-zero 10 ] };
  second = record { at = elim [ zero ↦ dvd-zero 10 | suc k ↦ dvd-zero 10 ] };
  zeros = refl;
  no_degree = refl;
}
