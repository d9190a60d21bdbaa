-- What the run asks and promises: cofactors of the two factors of the modulus, saved and joined, and the room that it needs.
--
--   MixedWords n a b s u u'  each word is a times that of s and b times that of u
--   SaveAsked, Saved         cofactors modulo the first factor are saved
--   MergeAsked, Merged       they are joined with those modulo the second
--   run_room n M             the words that the run needs, M the larger sent degree
--   RunAsked                 what the run asks
--   FactorsAsked             what it asks of two coprime factors
--   SecondAsked              what it asks of the second, after the first
use Rattle.std.specs.Prelude.{◌≡◌, List, ℕ, max, ◌+◌, ◌-◌, ◌*◌, ◌%◌, ◌<◌, ◌≤◌, length, get_or}
use Rattle.definitions.specs.Residues.{K}
use Rattle.definitions.specs.Polynomials.{coef, L}
use Rattle.windows.specs.Window.{piece}
use Rattle.window_factor.specs.Factors.{SplitOf}
use Rattle.reduced_cofactors.specs.Cofactors.{Certified}
use Rattle.reduced_attempt.specs.ReducedAttempts.{attempt_room}

-- each word is a times that of s and b times that of u, also above s, where s counts as 0
pub record MixedWords (n a b : ℕ) (s u u' : List ℕ) : Type 0 where
  pub at : (k : ℕ) → coef u' k ≡ (a * coef s k + b * coef u k) % n

-- u and v hold cofactors for polynomials of a and b words, and w has room for both
pub record SaveAsked (n a b : ℕ) (u v w : List ℕ) : Type 0 where
  pub modulus : 1 ≤ n
  pub some_a : 1 ≤ a
  pub some_b : 1 ≤ b
  pub room : 2 * L n (a - 1) (b - 1) ≤ length w
  pub first : L n (a - 1) (b - 1) ≤ length u
  pub second : L n (a - 1) (b - 1) ≤ length v

-- l words of u, and then l words of v; the words above are kept
pub record Saved (n l : ℕ) (u v w w' : List ℕ) : Type 0 where
  pub same : length w' ≡ length w
  pub first : (k : ℕ) → k < l → get_or w' k 0 ≡ coef u k % n
  pub second : (k : ℕ) → k < l → get_or w' (l + k) 0 ≡ coef v k % n
  pub high : (k : ℕ) → l + l ≤ k → get_or w' k 0 ≡ get_or w k 0

-- "the answers are joined by the Chinese remainder": p and q are coprime, their product is a word, and l words of each cofactor are
-- saved; m is the first number that is no word
pub record MergeAsked (m p q l : ℕ) (u v w : List ℕ) : Type 0 where
  pub saved : 2 * l ≤ length w
  pub first : l ≤ length u
  pub second : l ≤ length v
  pub word : p * q < m
  pub factors : SplitOf (p * q) p q

-- u and v with the l words saved of each; a is D₂ modulo p and 0 modulo q, b is 0 modulo p and D₁ modulo q
pub record Merged (p q l D₁ D₂ : ℕ) (w u u' v v' : List ℕ) : Type 0 where
  pub a : ℕ
  pub b : ℕ
  pub a_first : a % p ≡ D₂ % p
  pub a_second : a % q ≡ 0
  pub b_first : b % p ≡ 0
  pub b_second : b % q ≡ D₁ % q
  pub mixed_u : MixedWords (p * q) a b (piece w 0 l) u u'
  pub mixed_v : MixedWords (p * q) a b (piece w l l) v v'

-- what an attempt needs, and the cofactors saved
abbrev pub run_room : ℕ → ℕ → ℕ
run_room n M = 2 * (K n * (M + 1)) + attempt_room n M

-- f and g have a word each, each cofactor has its L words, and w has room; the words of f and g may be any, they count modulo n
pub record RunAsked (n : ℕ) (f g u v w : List ℕ) : Type 0 where
  pub modulus : 2 ≤ n
  pub some_f : 1 ≤ length f
  pub some_g : 1 ≤ length g
  pub room : run_room n (max (length f - 1) (length g - 1)) ≤ length w
  pub first : L n (length f - 1) (length g - 1) ≤ length u
  pub second : L n (length f - 1) (length g - 1) ≤ length v

-- p and q are coprime, and their product is a word; m is the first number that is no word
pub record FactorsAsked (m p q : ℕ) (f g u v w : List ℕ) : Type 0 where
  pub word : p * q < m
  pub factors : SplitOf (p * q) p q
  pub asked : RunAsked (p * q) f g u v w

-- a is D modulo p, its cofactors are the first l words of w and the next l, and the words after these are room for the run on q
pub record SecondAsked (m p q l a : ℕ) (f g u v w : List ℕ) : Type 0 where
  pub some_f : 1 ≤ length f
  pub some_g : 1 ≤ length g
  pub size : l ≡ L p (length f - 1) (length g - 1)
  pub join : MergeAsked m p q l u v w
  pub room : 2 * l + run_room q (max (length f - 1) (length g - 1)) ≤ length w
  pub first : L q (length f - 1) (length g - 1) ≤ length u
  pub second : L q (length f - 1) (length g - 1) ≤ length v
  pub saved : Certified p l f g (piece w 0 l) (piece w l l) a
