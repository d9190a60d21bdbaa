-- How long a text is: what the writer's 800 bytes and the reader's refusal of a longer text rest on.
--
--   most_characters k m     what m words from power k on may have at most, a plus sign after each term
--   text_short              767 characters are enough for 49 words of 32 bits
--   long_other              a longer text is not of the notation
use Rattle.std.specs.Prelude.{◌≡◌, refl, Bool, true, false, not, List, [], ◌∷◌, ℕ, zero, suc, ◌+◌, ◌-◌, ◌<◌, ◌≤◌, length}
use Rattle.std.proofs.Common.{ap, arith, length-append}
use Rattle.definitions.specs.Polynomials.{coef}
use Rattle.refusals.specs.Conditions.{Fails}
use Rattle.text_notation.specs.Notation.{digits_within, decimal, power_text, term, plus_joined, terms, or_zero, text, TextOf}
use Rattle.text_notation.proofs.Decimals.{decimal_short}
use Rattle.text_notation.specs.Candidates.{is_text}
use Rattle.text_notation.proofs.NotationLaws.{text_fails}

pub joined_length : (s t : List ℕ) → length (plus_joined s t) ≤ length s + 1 + length t
joined_length [] t = omega arith
joined_length (a ∷ s) [] = omega arith
joined_length (a ∷ s) (b ∷ t) = omega (arith, length-append (a ∷ s) (43 ∷ b ∷ t))

-- "`*x^` and then k in decimal": at most 5 characters, as k has at most two digits
pub power_short : (k : ℕ) → k < 100 → length (power_text k) ≤ 5
power_short zero h = omega arith
power_short (suc zero) h = omega arith
power_short (suc (suc k)) h = omega (arith, decimal_short 1 (suc (suc k)) h)

pub term_short : (c k : ℕ) → c < 10000000000 → length (term c k) ≤ 10 + length (power_text k)
term_short zero k h = omega arith
term_short (suc c) k h = omega (arith, length-append (decimal (suc c)) (power_text k), decimal_short 9 (suc c) h)

unfoldable pub most_characters : ℕ → ℕ → ℕ
most_characters k zero = 0
most_characters k (suc m) = 11 + length (power_text k) + most_characters (suc k) m

-- the plus sign after the last term is not written
pub terms_short : (k : ℕ) (f : List ℕ) → ((i : ℕ) → i < length f → coef f i < 4294967296)
    → length (terms k f) ≤ most_characters k (length f) - 1
unfolding terms most_characters
terms_short k [] h = omega arith
terms_short k (c ∷ []) h = omega (arith, term_short c k (omega (arith, h 0 (omega arith))))
terms_short k (c ∷ x ∷ f) h =
    omega (
      arith,
      term_short c k (omega (arith, h 0 (omega arith))),
      joined_length (terms (suc k) (x ∷ f)) (term c k),
      terms_short (suc k) (x ∷ f) (λ i l. h (suc i) (omega arith)),
    )

more : (k m l : ℕ) → m ≤ l → most_characters k m ≤ most_characters k l
unfolding most_characters
more k zero l h = omega arith
more k (suc m) zero h = absurd (omega arith)
more k (suc m) (suc l) h = omega (arith, more (suc k) m l (omega arith))

all_words : most_characters 0 49 ≡ 768
unfolding most_characters digits_within
all_words = refl

or_zero_short : (s : List ℕ) (m : ℕ) → length s ≤ suc m → length (or_zero s) ≤ suc m
or_zero_short [] m h = omega arith
or_zero_short (a ∷ s) m h = h

pub text_short : (f : List ℕ) → length f ≤ 49 → ((i : ℕ) → i < length f → coef f i < 4294967296) → length (text f) ≤ 767
text_short f h b =
    or_zero_short (terms 0 f) 766 (omega (arith, terms_short 0 f b, more 0 (length f) 49 h, all_words))

pub text_of_short : {n : ℕ} {s f : List ℕ} → n ≤ 4294967296 → TextOf n s f → length s ≤ 767
text_of_short {n} {s} {f} l h =
    omega (arith, ap length h.is, text_short f h.few (λ i m. omega (arith, h.residues.at i m)))

pub long_other : (n : ℕ) (s : List ℕ) → n ≤ 4294967296 → 767 < length s → is_text n s ≡ false
long_other n s l h = go (is_text n s) (text_fails n s)
  where
    go : (t : Bool) → Fails (not t) ((f : List ℕ) × TextOf n s f) → t ≡ false
    go true x = absurd (omega (arith, text_of_short l (x.passed refl).1))
    go false x = refl
