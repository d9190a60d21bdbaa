-- Laws of decimal numbers.
--
--   decimal_small, decimal_large     a number's digits, its last one apart
--   decimal_short                    a number below 10^k has at most k digits
use Rattle.std.specs.Prelude.{◌≡◌, Bool, true, false, List, [], ◌∷◌, ◌++◌, ℕ, zero, suc, ◌+◌, ◌/◌, ◌%◌, ◌^◌, ◌<◌, ◌≤◌, length}
use Rattle.std.proofs.Common.{sym, ap, ◌∙◌, pow-suc, arith, length-append, lt-ltb, le-ltb}
use Rattle.std.proofs.Math.Decide.{dec_lt}
use Rattle.text_notation.specs.Notation.{digits_within, decimal}

-- whether x has one digit
abbrev one_or_more : ℕ → ℕ → Bool → List ℕ
one_or_more k x t = elim t [ true ↦ (48 + x) ∷ [] | false ↦ digits_within k (x / 10) ++ ((48 + x % 10) ∷ []) ]

pub within_small : (k x : ℕ) → x < 10 → digits_within (suc k) x ≡ (48 + x) ∷ []
unfolding digits_within
within_small k x h = ap (one_or_more k x) (lt-ltb x 10 h)

pub within_large : (k x : ℕ) → 10 ≤ x → digits_within (suc k) x ≡ digits_within k (x / 10) ++ ((48 + x % 10) ∷ [])
unfolding digits_within
within_large k x h = ap (one_or_more k x) (le-ltb x 10 h)

-- any bound above the number gives its digits
pub within_enough : (j k x : ℕ) → x < j → x < k → digits_within j x ≡ digits_within k x
within_enough zero k x h l = absurd (omega arith)
within_enough (suc j) zero x h l = absurd (omega arith)
within_enough (suc j) (suc k) x h l = go (dec_lt x 10) (within_enough j k (x / 10))
  where
    go : Dec (x < 10) → (x / 10 < j → x / 10 < k → digits_within j (x / 10) ≡ digits_within k (x / 10))
        → digits_within (suc j) x ≡ digits_within (suc k) x
    go (yes p) ih = within_small j x p ∙ sym (within_small k x p)
    go (no p) ih =
        within_large j x (omega arith)
        ∙ ap (λ (d : List ℕ). d ++ ((48 + x % 10) ∷ [])) (ih (omega arith) (omega arith))
        ∙ sym (within_large k x (omega arith))

pub decimal_small : (x : ℕ) → x < 10 → decimal x ≡ (48 + x) ∷ []
decimal_small x h = within_small x x h

pub decimal_large : (x : ℕ) → 10 ≤ x → decimal x ≡ decimal (x / 10) ++ ((48 + x % 10) ∷ [])
decimal_large x h =
    within_large x x h
    ∙ ap (λ (d : List ℕ). d ++ ((48 + x % 10) ∷ [])) (within_enough x (suc (x / 10)) (x / 10) (omega arith) (omega arith))

pub within_short : (j k x : ℕ) → x < 10 ^ suc k → length (digits_within j x) ≤ suc k
unfolding digits_within
within_short zero k x h = omega arith
within_short (suc j) k x h = go k (dec_lt x 10) h (λ m. within_short j m (x / 10))
  where
    go : (k : ℕ) → Dec (x < 10) → x < 10 ^ suc k → ((m : ℕ) → x / 10 < 10 ^ suc m → length (digits_within j (x / 10)) ≤ suc m)
        → length (digits_within (suc j) x) ≤ suc k
    go k (yes p) h ih = omega (arith, ap length (within_small j x p))
    go zero (no p) h ih = absurd (omega arith)
    go (suc k) (no p) h ih =
        omega (
          arith,
          ap length (within_large j x (omega arith)),
          length-append (digits_within j (x / 10)) ((48 + x % 10) ∷ []),
          ih k (omega (arith, pow-suc 10 (suc k))),
        )

pub decimal_short : (k x : ℕ) → x < 10 ^ suc k → length (decimal x) ≤ suc k
decimal_short k x h = within_short (suc x) k x h

pub decimal_some : (x : ℕ) → 1 ≤ length (decimal x)
decimal_some x = go (dec_lt x 10)
  where
    go : Dec (x < 10) → 1 ≤ length (decimal x)
    go (yes p) = omega (arith, ap length (decimal_small x p))
    go (no p) = omega (arith, ap length (decimal_large x (omega arith)), length-append (decimal (x / 10)) ((48 + x % 10) ∷ []))
