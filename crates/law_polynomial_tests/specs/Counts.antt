-- Words up to the highest that fails a test: the true degree, and the place of a leading coefficient, are such counts.
--
--   last_count P f       the number of words of f up to the highest at which P is false
--   count_is             a number that is it
--   HoldsFrom P f k      P is true at the words from k on
--   count_above, count_at, count_most     what is known of the words above it, and of the last that is counted
--   extent_count         the definition's extent is the count of the test for 0
use Rattle.std.specs.Prelude.{◌≡◌, refl, Bool, true, false, cond, List, [], ◌∷◌, ℕ, zero, suc, ◌-◌, ◌≤◌, ◌<◌, T, eqb, length}
use Rattle.std.proofs.Common.{sym, ap, subst, ◌∙◌, ⊎_elim, le_antisymm, eq-or-lt_of_le, arith}
use Rattle.definitions.specs.Polynomials.{coef, extent}

unfoldable pub last_count : (ℕ → Bool) → List ℕ → ℕ
last_count P [] = 0
last_count P (x ∷ f) = elim (last_count P f) [ zero ↦ cond (P x) 0 1 | suc k ↦ suc (suc k) ]

-- one word before those counted
abbrev counted : Bool → ℕ → ℕ
counted t e = elim e [ zero ↦ cond t 0 1 | suc k ↦ suc (suc k) ]

counted_some : (t : Bool) (e k : ℕ) → e ≤ k → counted t e ≤ suc k
counted_some true zero k l = omega arith
counted_some false zero k l = omega arith
counted_some t (suc e) k l = omega arith

counted_none : (t : Bool) (e : ℕ) → t ≡ true → e ≤ 0 → counted t e ≤ 0
counted_none true zero h l = omega arith
counted_none false zero h l = absurd (subst T (sym h) tt)
counted_none t (suc e) h l = absurd (omega arith)

counted_first : (t : Bool) (e : ℕ) → t ≡ false → 0 < counted t e
counted_first true zero h = absurd (subst T h tt)
counted_first false zero h = omega arith
counted_first t (suc e) h = omega arith

counted_next : (t : Bool) (e j : ℕ) → j < e → suc j < counted t e
counted_next t zero j l = absurd (omega arith)
counted_next t (suc e) j l = omega arith

pub count_most : (P : ℕ → Bool) (f : List ℕ) (k : ℕ) → ((j : ℕ) → k ≤ j → j < length f → P (coef f j) ≡ true) → last_count P f ≤ k
unfolding last_count
count_most P [] k h = omega arith
count_most P (x ∷ f) zero h = counted_none (P x) (last_count P f) (h 0 (omega arith) (omega arith))
    (count_most P f 0 (λ j l b. h (suc j) (omega arith) (omega arith)))
count_most P (x ∷ f) (suc k) h = counted_some (P x) (last_count P f) k (count_most P f k (λ j l b. h (suc j) (omega arith) (omega arith)))

pub count_least : (P : ℕ → Bool) (f : List ℕ) (j : ℕ) → j < length f → P (coef f j) ≡ false → j < last_count P f
unfolding last_count
count_least P [] j l h = absurd (omega arith)
count_least P (x ∷ f) zero l h = counted_first (P x) (last_count P f) h
count_least P (x ∷ f) (suc j) l h = counted_next (P x) (last_count P f) j (count_least P f j (omega arith) h)

pub count_is : (P : ℕ → Bool) (f : List ℕ) (k : ℕ) → k ≤ length f → ((j : ℕ) → k ≤ j → j < length f → P (coef f j) ≡ true)
    → (0 < k → P (coef f (k - 1)) ≡ false)
    → k ≡ last_count P f
count_is P f zero l h top = le_antisymm (omega arith) (count_most P f zero h)
count_is P f (suc k) l h top =
    let e : suc k - 1 ≡ k = omega arith in
    le_antisymm (count_least P f k (omega arith) (subst (λ (x : ℕ). P (coef f x) ≡ false) e (top (omega arith)))) (count_most P f (suc k) h)

-- P is true at the words from k on: what a loop from the top keeps
pub record HoldsFrom (P : ℕ → Bool) (f : List ℕ) (k : ℕ) : Type 0 where
  pub at : (j : ℕ) → k ≤ j → j < length f → P (coef f j) ≡ true

pub holds_none : (P : ℕ → Bool) (f : List ℕ) → HoldsFrom P f (length f)
holds_none P f = record { at = λ j l b. absurd (omega arith) }

pub holds_more : {P : ℕ → Bool} {f : List ℕ} {k : ℕ} → HoldsFrom P f k → 0 < k → P (coef f (k - 1)) ≡ true → HoldsFrom P f (k - 1)
holds_more {P} {f} {k} x l h = record {
  at = λ j b q. ⊎_elim (λ e. subst (λ (y : ℕ). P (coef f y) ≡ true) e h) (λ c. x.at j (omega arith) q) (eq-or-lt_of_le b);
}

pub holds_all : {P : ℕ → Bool} {f : List ℕ} {k : ℕ} → HoldsFrom P f k → k ≡ 0 → 0 ≡ last_count P f
holds_all {P} {f} {k} x e = count_is P f 0 (omega arith) (λ j l b. x.at j (omega arith) b) (λ l. absurd (omega arith))

pub holds_until : {P : ℕ → Bool} {f : List ℕ} {k : ℕ} → HoldsFrom P f k → k ≤ length f → P (coef f (k - 1)) ≡ false → k ≡ last_count P f
holds_until {P} {f} {k} x l h = count_is P f k l x.at (λ _. h)

pub count_length : (P : ℕ → Bool) (f : List ℕ) → last_count P f ≤ length f
count_length P f = count_most P f (length f) (λ j l b. absurd (omega arith))

pub count_above : (P : ℕ → Bool) (f : List ℕ) (j : ℕ) → last_count P f ≤ j → j < length f → P (coef f j) ≡ true
count_above P f j l b = pick (P (coef f j)) refl
  where
    pick : (t : Bool) → P (coef f j) ≡ t → P (coef f j) ≡ true
    pick true e = e
    pick false e = absurd (let z = count_least P f j b e in omega arith)

pub count_at : (P : ℕ → Bool) (f : List ℕ) → 0 < last_count P f → P (coef f (last_count P f - 1)) ≡ false
count_at P f l = pick (P (coef f (last_count P f - 1))) refl
  where
    pick : (t : Bool) → P (coef f (last_count P f - 1)) ≡ t → P (coef f (last_count P f - 1)) ≡ false
    pick true e = absurd (let z = count_most P f (last_count P f - 1)
        (λ j b h. ⊎_elim (λ q. subst (λ (x : ℕ). P (coef f x) ≡ true) q e) (λ q. count_above P f j (omega arith) h) (eq-or-lt_of_le b)) in
        omega arith)
    pick false e = e

-- the definition's count
abbrev stretched : Bool → ℕ → ℕ
stretched t e = elim e [ zero ↦ elim t [ true ↦ 0 | false ↦ 1 ] | suc k ↦ suc (suc k) ]

stretched_is : (t : Bool) (e : ℕ) → stretched t e ≡ counted t e
stretched_is true zero = refl
stretched_is false zero = refl
stretched_is t (suc e) = refl

pub extent_count : (f : List ℕ) → extent f ≡ last_count (λ (x : ℕ). eqb x 0) f
unfolding extent last_count
extent_count [] = refl
extent_count (x ∷ f) = ap (stretched (eqb x 0)) (extent_count f) ∙ stretched_is (eqb x 0) (last_count (λ (y : ℕ). eqb y 0) f)

pub extent_length : (f : List ℕ) → extent f ≤ length f
extent_length f = subst (λ (x : ℕ). x ≤ length f) (sym (extent_count f)) (count_length (λ (x : ℕ). eqb x 0) f)
