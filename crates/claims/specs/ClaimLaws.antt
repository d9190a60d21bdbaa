-- Laws of `Judged`, over any n and any polynomials, and the definition at numbers.
--
--   judged_once        of one claim no two things are said: so each is said exactly where it is true
--   judged_exactly     the same as two implications
--   zero_fails         "0 divides no n"
--   above_fails        nothing above n divides it: a claim of n or more that passes the first test is n
--   damaged-…          modulo 8, f = 2 and g = 0, D = 2: claims that fail the first, the second and the third test
use Rattle.std.specs.Prelude.{◌≡◌, refl, List, [], ◌∷◌, ℕ, zero, suc, ◌+◌, ◌*◌, ◌%◌, ◌<◌, ◌≤◌}
use Rattle.std.proofs.Common.{ap, ap₂, subst, arith}
use Rattle.std.proofs.Math.Nat.{le_of_dvd, pos_of_dvd_of_pos, dvd-mul_right, mod-eq-zero_of_dvd}
use Rattle.definitions.specs.Checks.{convolve_beyond}
use Rattle.definitions.specs.Resultants.{Combination, Reached}
use Rattle.claims.specs.Claims.{Judged}

pub judged_once : (j k n : ℕ) (f g : List ℕ) (D : ℕ) (u v : List ℕ) → Judged j n f g D u v → Judged k n f g D u v → j ≡ k
judged_once zero zero n f g D u v a b = refl
judged_once zero (suc zero) n f g D u v a b = absurd (b a.0)
judged_once zero (suc (suc zero)) n f g D u v a b = absurd (b.1 a.1.0)
judged_once zero (suc (suc (suc zero))) n f g D u v a b = absurd (b.1.1 a.1.1)
judged_once zero (suc (suc (suc (suc k)))) n f g D u v a b = absurd b
judged_once (suc zero) zero n f g D u v a b = absurd (a b.0)
judged_once (suc zero) (suc zero) n f g D u v a b = refl
judged_once (suc zero) (suc (suc zero)) n f g D u v a b = absurd (a b.0)
judged_once (suc zero) (suc (suc (suc zero))) n f g D u v a b = absurd (a b.0)
judged_once (suc zero) (suc (suc (suc (suc k)))) n f g D u v a b = absurd b
judged_once (suc (suc zero)) zero n f g D u v a b = absurd (a.1 b.1.0)
judged_once (suc (suc zero)) (suc zero) n f g D u v a b = absurd (b a.0)
judged_once (suc (suc zero)) (suc (suc zero)) n f g D u v a b = refl
judged_once (suc (suc zero)) (suc (suc (suc zero))) n f g D u v a b = absurd (a.1 b.1.0)
judged_once (suc (suc zero)) (suc (suc (suc (suc k)))) n f g D u v a b = absurd b
judged_once (suc (suc (suc zero))) zero n f g D u v a b = absurd (a.1.1 b.1.1)
judged_once (suc (suc (suc zero))) (suc zero) n f g D u v a b = absurd (b a.0)
judged_once (suc (suc (suc zero))) (suc (suc zero)) n f g D u v a b = absurd (b.1 a.1.0)
judged_once (suc (suc (suc zero))) (suc (suc (suc zero))) n f g D u v a b = refl
judged_once (suc (suc (suc zero))) (suc (suc (suc (suc k)))) n f g D u v a b = absurd b
judged_once (suc (suc (suc (suc j)))) k n f g D u v a b = absurd a

-- S47: "accepts exactly when …", and k exactly where the k-th fails and those before it hold
pub judged_exactly : (j k n : ℕ) (f g : List ℕ) (D : ℕ) (u v : List ℕ) → Judged j n f g D u v
    → (j ≡ k → Judged k n f g D u v) × (Judged k n f g D u v → j ≡ k)
judged_exactly j k n f g D u v a = (λ e. subst (λ (x : ℕ). Judged x n f g D u v) e a, judged_once j k n f g D u v a)

-- S47: "0 divides no n"
pub zero_fails : (n : ℕ) → 1 ≤ n → (f g u v : List ℕ) → Judged 1 n f g 0 u v
zero_fails n l f g u v d = let p = pos_of_dvd_of_pos d l in absurd (omega arith)

pub above_fails : (n : ℕ) → 1 ≤ n → (f g : List ℕ) (D : ℕ) (u v : List ℕ) → n < D → Judged 1 n f g D u v
above_fails n l f g D u v h d = let p = le_of_dvd l d in absurd (omega arith)

-- ---- modulo 8, f = 2, g = 0: the constants reached are the multiples of 2, and D is 2

one_word : (a : ℕ) → Combination 8 (2 ∷ []) (0 ∷ []) (a ∷ []) (0 ∷ []) (a * 2)
one_word a = record {
  sum = elim [
    | zero ↦ ap (λ (x : ℕ). x % 8) (plain (a * 2))
    | suc k ↦ ap₂ (λ (x y : ℕ). (x + y) % 8) (convolve_beyond (a ∷ []) (2 ∷ []) (suc k) (omega arith))
        (convolve_beyond (0 ∷ []) (0 ∷ []) (suc k) (omega arith))
  ];
}
  where
    plain : (x : ℕ) → x + 0 + (0 * 0 + 0) ≡ x
    plain x = omega arith

-- 3 does not divide 8
damaged_first : Judged 1 8 (2 ∷ []) (0 ∷ []) 3 (1 ∷ []) (0 ∷ [])
damaged_first d = absurd (omega (arith, mod-eq-zero_of_dvd 3 d))

-- 1 divides 8, and the combination gives 2
damaged_second : Judged 2 8 (2 ∷ []) (0 ∷ []) 1 (1 ∷ []) (0 ∷ [])
damaged_second = (dvd-mul_right 1 8, λ c. let e = c.sum 0 in absurd (omega arith))

-- 4 divides 8, and the doubled multiplier combines to it; but 2 is reached, and 4 does not divide 2
damaged_third : Judged 3 8 (2 ∷ []) (0 ∷ []) 4 (2 ∷ []) (0 ∷ [])
damaged_third = (
  dvd-mul_right 4 2,
  (
    one_word 2,
    λ r.
        let two : Reached 8 (2 ∷ []) (0 ∷ []) 2 = record { u = 1 ∷ []; v = 0 ∷ []; combination = one_word 1 } in
        let e = mod-eq-zero_of_dvd 4 (r.only 2 (omega arith) two) in
        absurd (omega arith),
  ),
)
