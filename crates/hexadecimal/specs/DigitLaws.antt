-- Laws of hexadecimal texts: how texts join, how large a number they spell, and that reading undoes writing.
--
--   and_both                          two tests
--   all_digits_append, all_digits_part, all_digits_after    digits of a joined text, of a part, of the rest
--   spelled_append, number_snoc       the number of a joined text
--   spelled_below, number_below       how large it is
--   digits_length, digits_are_digits, digit_character    what is written: k characters, digits, each with its value
--   number_digits                     read again, it is the number written
use Rattle.std.specs.Prelude.{◌≡◌, refl, Bool, true, false, ◌&&◌, List, [], ◌∷◌, ◌++◌, ℕ, zero, suc, ◌+◌, ◌*◌, ◌/◌, ◌%◌, ◌^◌, ◌<◌, ◌≤◌, length, take, drop, ltb}
use Rattle.std.proofs.Common.{sym, ap, ap₂, ◌∙◌, lt_of_lt_of_le, mul-le-mul_right, pow-suc, arith, length-append, take-append-drop, ltb-true, lt-ltb, le-ltb}
use Rattle.std.proofs.lemmas.Bool.{false≢true}
use Rattle.std.proofs.Math.Bool.{and_assoc, and-false}
use Rattle.std.proofs.Math.Nat.{pow-le-pow_right}
use Rattle.std.proofs.Math.Decide.{dec_lt}
use Rattle.hexadecimal.specs.Hexadecimal.{digit_of, all_digits, spelled, number_of, character_of, digits_of}

-- ---- two tests at once

pub and_both : (a b : Bool) → (a && b) ≡ true → (a ≡ true) × (b ≡ true)
and_both true b h = (refl, h)
and_both false b h = absurd (false≢true h)

-- ---- one text after another

pub all_digits_append : (s t : List ℕ) → all_digits (s ++ t) ≡ (all_digits s && all_digits t)
unfolding all_digits
all_digits_append [] t = refl
all_digits_append (c ∷ s) t =
    ap (λ (b : Bool). ltb (digit_of c) 16 && b) (all_digits_append s t)
    ∙ sym (and_assoc (ltb (digit_of c) 16) (all_digits s) (all_digits t))

-- a character of a part that is no digit is one of the whole
pub all_digits_part : (a k : ℕ) (s : List ℕ) → all_digits (take k (drop a s)) ≡ false → all_digits s ≡ false
all_digits_part a k s h =
    ap all_digits (sym (take-append-drop a s) ∙ ap (λ (x : List ℕ). take a s ++ x) (sym (take-append-drop k (drop a s))))
    ∙ all_digits_append (take a s) (take k (drop a s) ++ drop k (drop a s))
    ∙ ap (λ (b : Bool). all_digits (take a s) && b)
    (all_digits_append (take k (drop a s)) (drop k (drop a s)) ∙ ap (λ (b : Bool). b && all_digits (drop k (drop a s))) h)
    ∙ and-false (all_digits (take a s))

-- k digits in front change nothing
pub all_digits_after : (k : ℕ) (s : List ℕ) → all_digits (take k s) ≡ true → all_digits s ≡ all_digits (drop k s)
all_digits_after k s h =
    ap all_digits (sym (take-append-drop k s)) ∙ all_digits_append (take k s) (drop k s) ∙ ap (λ (b : Bool). b && all_digits (drop k s)) h

pub spelled_append : (x : ℕ) (s t : List ℕ) → spelled x (s ++ t) ≡ spelled (spelled x s) t
unfolding spelled
spelled_append x [] t = refl
spelled_append x (c ∷ s) t = spelled_append (x * 16 + digit_of c) s t

pub number_snoc : (s : List ℕ) (c : ℕ) → number_of (s ++ c ∷ []) ≡ number_of s * 16 + digit_of c
unfolding spelled
number_snoc s c = spelled_append 0 s (c ∷ [])

-- ---- k digits spell a number below 16^k

spelled_step : (x y p : ℕ) → y < 16 → (x * 16 + y + 1) * p ≤ (x + 1) * (p * 16)
spelled_step x y p h = omega (arith, mul-le-mul_right {m = x * 16 + y + 1} {n = x * 16 + 16} p (omega arith))

pub spelled_below : (x : ℕ) (s : List ℕ) → all_digits s ≡ true → spelled x s < (x + 1) * 16 ^ length s
unfolding spelled all_digits
spelled_below x [] h = omega arith
spelled_below x (c ∷ s) h =
    let b = and_both (ltb (digit_of c) 16) (all_digits s) h in
    lt_of_lt_of_le (spelled_below (x * 16 + digit_of c) s b.1)
    (rw (pow-suc 16 (length s)) (spelled_step x (digit_of c) (16 ^ length s) (ltb-true (digit_of c) 16 b.0)))

pub number_below : (s : List ℕ) (k : ℕ) → all_digits s ≡ true → length s ≤ k → number_of s < 16 ^ k
number_below s k h l = lt_of_lt_of_le (spelled_below 0 s h) (omega (arith, pow-le-pow_right {n = 16} (omega arith) l))

-- ---- reading undoes writing

pub digits_length : (k x : ℕ) → length (digits_of k x) ≡ k
unfolding digits_of
digits_length zero x = refl
digits_length (suc k) x = length-append (digits_of k (x / 16)) (character_of (x % 16) ∷ []) ∙ omega (arith, digits_length k (x / 16))

pub digit_character : (x : ℕ) → x < 16 → digit_of (character_of x) ≡ x
digit_character x h = elim (dec_lt x 10) [ yes l ↦ low l | no l ↦ high (omega arith) ]
  where
    low : x < 10 → digit_of (character_of x) ≡ x
    low l = simp (lt-ltb x 10 l, le-ltb (48 + x) 48 (omega arith), lt-ltb (48 + x) 58 (omega arith)) (omega arith)

    high : 10 ≤ x → digit_of (character_of x) ≡ x
    high l =
        simp (
          le-ltb x 10 l,
          le-ltb (87 + x) 48 (omega arith),
          le-ltb (87 + x) 58 (omega arith),
          le-ltb (87 + x) 97 (omega arith),
          lt-ltb (87 + x) 103 (omega arith),
        ) (omega arith)

pub digits_are_digits : (k x : ℕ) → all_digits (digits_of k x) ≡ true
unfolding digits_of all_digits
digits_are_digits zero x = refl
digits_are_digits (suc k) x =
    let e : ltb (digit_of (character_of (x % 16))) 16 ≡ true =
    ap (λ (y : ℕ). ltb y 16) (digit_character (x % 16) (omega arith)) ∙ lt-ltb (x % 16) 16 (omega arith) in
    all_digits_append (digits_of k (x / 16)) (character_of (x % 16) ∷ [])
    ∙ ap₂ (λ (a b : Bool). a && (b && true)) (digits_are_digits k (x / 16)) e

pub number_digits : (k x : ℕ) → x < 16 ^ k → number_of (digits_of k x) ≡ x
unfolding digits_of spelled
number_digits zero x h = omega arith
number_digits (suc k) x h =
    number_snoc (digits_of k (x / 16)) (character_of (x % 16))
    ∙ ap₂ (λ (y z : ℕ). y * 16 + z) (number_digits k (x / 16) (omega (arith, pow-suc 16 k))) (digit_character (x % 16) (omega arith))
    ∙ omega arith
