-- K n, the largest whole number with 2 ^ K n ≤ n: the binary logarithm, rounded down.
--
--   K_bounds      2 ^ K n ≤ n < 2 ^ suc (K n)
--   K_largest     2 ^ k ≤ n, hence k ≤ K n
--   K_unique      the bounds fix K n
--   K_half        K n is one more than K (n / 2): what a loop of halvings counts
--   K_sum         K n₁ + K n₂ ≤ K (n₁ n₂)
--   K_monotone, K_positive, K_below
--   Halved n m k  m is n halved k times
use Rattle.std.specs.Prelude.{◌≡◌, refl, Bool, true, false, ℕ, zero, suc, ◌+◌, ◌*◌, ◌/◌, ◌^◌, ◌<◌, ◌≤◌, leb, T}
use Rattle.std.proofs.Common.{sym, ap, subst, pow-suc, le_antisymm, le_trans, mul-le-mul, arith, le→leb, leb→le, pow-add, pow_mono, pow_pos}
use Rattle.std.proofs.Math.Nat.{pow-zero}
use Rattle.std.proofs.Math.Decide.{dec_le}
use Rattle.definitions.specs.Residues.{halvings, K}

is_true : (b : Bool) → T b → b ≡ true
is_true true t = refl
is_true false t = absurd t

is_false : (b : Bool) → (T b → ⊥) → b ≡ false
is_false true t = absurd (t tt)
is_false false t = refl

abbrev Step : ℕ → ℕ → Bool → ℕ
Step s n b = elim b [ true ↦ suc (halvings s (n / 2)) | false ↦ 0 ]

halvings_more : (s n : ℕ) → 2 ≤ n → halvings (suc s) n ≡ suc (halvings s (n / 2))
unfolding halvings
halvings_more s n l = ap (Step s n) (is_true (leb 2 n) (le→leb 2 n l))

halvings_none : (s n : ℕ) → n < 2 → halvings (suc s) n ≡ 0
unfolding halvings
halvings_none s n l = ap (Step s n) (is_false (leb 2 n) (λ t. let z = leb→le 2 n t in omega arith))

-- 2 ^ k ≤ n < 2 ^ suc k
pub record Between (k n : ℕ) : Type 0 where
  pub low : 2 ^ k ≤ n
  pub high : n < 2 ^ suc k

double : {k n : ℕ} → 2 ≤ n → Between k (n / 2) → Between (suc k) n
double {k} {n} l b =
    let p = pow-suc 2 k in
    let q = pow-suc 2 (suc k) in
    let x = b.low in
    let y = b.high in
    record { low = omega arith; high = omega arith }

between_step : (s n : ℕ) → 1 ≤ n → (2 ≤ n → Between (halvings s (n / 2)) (n / 2)) → Dec (2 ≤ n) → Between (halvings (suc s) n) n
between_step s n l ih (yes m) = subst (λ (k : ℕ). Between k n) (sym (halvings_more s n m)) (double m (ih m))
between_step s n l ih (no m) =
    subst (λ (k : ℕ). Between k n) (sym (halvings_none s n (omega arith)))
    (record { low = omega (arith, pow-zero 2); high = omega (arith, pow-zero 2, pow-suc 2 0) })

between : (s n : ℕ) → 1 ≤ n → n ≤ s → Between (halvings s n) n
between zero n l h = absurd (omega arith)
between (suc s) n l h = between_step s n l (λ m. between s (n / 2) (omega arith) (omega arith)) (dec_le 2 n)

pub K_bounds : (n : ℕ) → 1 ≤ n → Between (K n) n
unfolding K
K_bounds n l = between n n l (omega arith)

pub K_largest : (n k : ℕ) → 2 ^ k ≤ n → k ≤ K n
K_largest n k l = pick (dec_le k (K n))
  where
    pick : Dec (k ≤ K n) → k ≤ K n
    pick (yes z) = z
    pick (no z) =
        let b = (K_bounds n (le_trans (pow_pos k) l)).high in
        let c : 2 ^ suc (K n) ≤ 2 ^ k = pow_mono (omega arith) in
        absurd (omega arith)

pub K_unique : (n k : ℕ) → Between k n → K n ≡ k
K_unique n k b = le_antisymm (pick (dec_le (K n) k)) (K_largest n k b.low)
  where
    pick : Dec (K n ≤ k) → K n ≤ k
    pick (yes z) = z
    pick (no z) =
        let l = (K_bounds n (le_trans (pow_pos k) b.low)).low in
        let c : 2 ^ suc k ≤ 2 ^ K n = pow_mono (omega arith) in
        let h = b.high in
        absurd (omega arith)

pub K_one : K 1 ≡ 0
K_one = K_unique 1 0 (record { low = omega (arith, pow-zero 2); high = omega (arith, pow-zero 2, pow-suc 2 0) })

pub K_half : (n : ℕ) → 2 ≤ n → K n ≡ suc (K (n / 2))
K_half n l = K_unique n (suc (K (n / 2))) (double l (K_bounds (n / 2) (omega arith)))

pub K_positive : (n : ℕ) → 2 ≤ n → 1 ≤ K n
K_positive n l = omega (arith, K_half n l)

pub K_monotone : (m n : ℕ) → 1 ≤ m → m ≤ n → K m ≤ K n
K_monotone m n l h = K_largest n (K m) (le_trans (K_bounds m l).low h)

pub K_sum : (n₁ n₂ : ℕ) → 1 ≤ n₁ → 1 ≤ n₂ → K n₁ + K n₂ ≤ K (n₁ * n₂)
K_sum n₁ n₂ l₁ l₂ =
    K_largest (n₁ * n₂) (K n₁ + K n₂)
    (subst (λ (x : ℕ). x ≤ n₁ * n₂) (sym (pow-add 2 (K n₁) (K n₂))) (mul-le-mul (K_bounds n₁ l₁).low (K_bounds n₂ l₂).low))

-- below 2 ^ w, K n is below w
pub K_below : (n w : ℕ) → 1 ≤ n → n < 2 ^ w → K n < w
K_below n w l h = pick (dec_le w (K n))
  where
    pick : Dec (w ≤ K n) → K n < w
    pick (yes z) = let b = (K_bounds n l).low in let c : 2 ^ w ≤ 2 ^ K n = pow_mono z in absurd (omega arith)
    pick (no z) = omega arith

-- ---- counting halvings: m is n halved k times

pub record Halved (n m k : ℕ) : Type 0 where
  pub few : k + m ≤ n
  pub is : K n ≡ k + K m

pub halved_start : (n : ℕ) → Halved n n 0
halved_start n = record { few = omega arith; is = omega arith }

pub halved_step : {n m k : ℕ} → 2 ≤ m → Halved n m k → Halved n (m / 2) (k + 1)
halved_step {n} {m} {k} l h = let a = h.few in let b = h.is in let c = K_half m l in record { few = omega arith; is = omega arith }

K_small : (m : ℕ) → m < 2 → K m ≡ 0
unfolding K halvings
K_small zero l = refl
K_small (suc zero) l = K_one
K_small (suc (suc m)) l = absurd (omega arith)

pub halved_end : {n m k : ℕ} → m < 2 → Halved n m k → k ≡ K n
halved_end {n} {m} {k} l h = let b = h.is in let c = K_small m l in omega arith
