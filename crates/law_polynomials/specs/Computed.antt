-- Facts about given word lists by computation: a test of the first words, and a lemma that it is enough, since all further words are 0. So
-- an example or a line of a table costs one `tt`.
--
--   up_to n P                 P 0, …, P (n - 1) are all true
--   below_by, multiplied_by, divided_by, inverse_by, combined_by    the facts, each from its test
--
-- Letters: n is the modulus; f, g, u, v, w, a, b, q, r are word lists; k is a place.
use Rattle.std.specs.Prelude.{◌≡◌, refl, List, Bool, true, false, ◌&&◌, ℕ, zero, suc, ◌<◌, ◌≤◌, ◌%◌, ◌+◌, T, ltb, eqb, length}
use Rattle.std.proofs.Common.{sym, ◌∙◌, ap, ap₂, arith, ltb→lt, eqb→eq}
use Rattle.std.proofs.Math.Decide.{dec_lt}
use Rattle.definitions.specs.Checks.{convolve_beyond}
use Rattle.definitions.specs.Polynomials.{coef, convolve, constant, Residues, Multiplied, Divided}
use Rattle.definitions.specs.Resultants.{Combination}
use Rattle.law_polynomials.specs.ReachedSteps.{coef_beyond}

abbrev pub up_to : ℕ → (ℕ → Bool) → Bool
up_to zero P = true
up_to (suc n) P = P 0 && up_to n (λ k. P (suc k))

pub both : (a b : Bool) → T (a && b) → T a × T b
both true b t = (tt, t)
both false b t = absurd t

up_to_at : (n : ℕ) (P : ℕ → Bool) → T (up_to n P) → (k : ℕ) → k < n → T (P k)
up_to_at zero P t k l = absurd (omega arith)
up_to_at (suc n) P t zero l = (both (P 0) (up_to n (λ k. P (suc k))) t).0
up_to_at (suc n) P t (suc k) l = up_to_at n (λ k. P (suc k)) (both (P 0) (up_to n (λ k. P (suc k))) t).1 k (omega arith)

-- two sequences of words that agree up to place s and from there on
agree : (s : ℕ) (F G : ℕ → ℕ) → T (up_to s (λ k. eqb (F k) (G k))) → ((k : ℕ) → s ≤ k → F k ≡ G k) → (k : ℕ) → F k ≡ G k
agree s F G t h k = go (dec_lt k s)
  where
    go : Dec (k < s) → F k ≡ G k
    go (yes l) = eqb→eq (F k) (G k) (up_to_at s (λ k. eqb (F k) (G k)) t k l)
    go (no l) = h k (omega arith)

abbrev pub below : ℕ → List ℕ → Bool
below n f = up_to (length f) (λ k. ltb (coef f k) n)

pub below_by : (n : ℕ) (f : List ℕ) → T (below n f) → Residues n f
below_by n f t = record { at = λ k l. ltb→lt (coef f k) n (up_to_at (length f) (λ k. ltb (coef f k) n) t k l) }

abbrev pub multiplied : ℕ → List ℕ → List ℕ → List ℕ → Bool
multiplied n f a b = up_to (length f + (length a + length b)) (λ k. eqb (coef f k % n) (convolve (coef a) (coef b) k % n))

pub multiplied_by : (n : ℕ) (f a b : List ℕ) → T (multiplied n f a b) → Multiplied n f a b
multiplied_by n f a b t = record {
  at = agree (length f + (length a + length b)) (λ k. coef f k % n) (λ k. convolve (coef a) (coef b) k % n) t
      (λ k l. ap (λ x. x % n) (coef_beyond f k (omega arith) ∙ sym (convolve_beyond a b k (omega arith))));
}

abbrev pub divided : ℕ → List ℕ → List ℕ → List ℕ → List ℕ → Bool
divided n g f q r = up_to (length g + (length q + length f) + length r)
    (λ k. eqb ((convolve (coef q) (coef f) k + coef r k) % n) (coef g k % n))

pub divided_by : (n : ℕ) (g f q r : List ℕ) → T (divided n g f q r) → Divided n g f q r
divided_by n g f q r t = record {
  at = agree (length g + (length q + length f) + length r) (λ k. (convolve (coef q) (coef f) k + coef r k) % n) (λ k. coef g k % n) t
      (λ k l. ap (λ x. x % n) (ap₂ ◌+◌ (convolve_beyond q f k (omega arith)) (coef_beyond r k (omega arith))
      ∙ sym (coef_beyond g k (omega arith))));
}

-- the constant c has no words from place 1 on
constant_beyond : (c k : ℕ) → 1 ≤ k → constant c k ≡ 0
constant_beyond c zero l = absurd (omega arith)
constant_beyond c (suc k) l = refl

abbrev pub inverse : ℕ → List ℕ → List ℕ → Bool
inverse n u w = up_to (suc (length w + length u)) (λ k. eqb (convolve (coef w) (coef u) k % n) (constant 1 k % n))

pub inverse_by : (n : ℕ) (u w : List ℕ) → T (inverse n u w) → (k : ℕ) → convolve (coef w) (coef u) k % n ≡ constant 1 k % n
inverse_by n u w t =
    agree (suc (length w + length u)) (λ k. convolve (coef w) (coef u) k % n) (λ k. constant 1 k % n) t
    (λ k l. ap (λ x. x % n) (convolve_beyond w u k (omega arith) ∙ sym (constant_beyond 1 k (omega arith))))

abbrev pub combined : ℕ → List ℕ → List ℕ → List ℕ → List ℕ → ℕ → Bool
combined n f g u v c =
    up_to (suc (length u + length f + (length v + length g)))
    (λ k. eqb ((convolve (coef u) (coef f) k + convolve (coef v) (coef g) k) % n) (constant c k % n))

pub combined_by : (n : ℕ) (f g u v : List ℕ) (c : ℕ) → T (combined n f g u v c) → Combination n f g u v c
combined_by n f g u v c t = record {
  sum = agree (suc (length u + length f + (length v + length g))) (λ k. (convolve (coef u) (coef f) k + convolve (coef v) (coef g) k) % n)
      (λ k. constant c k % n) t
      (λ k l. ap (λ x. x % n) (ap₂ ◌+◌ (convolve_beyond u f k (omega arith)) (convolve_beyond v g k (omega arith))
      ∙ sym (constant_beyond c k (omega arith))));
}
