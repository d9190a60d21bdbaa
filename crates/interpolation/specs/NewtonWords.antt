-- Newton's differences and Horner's rule in words modulo n, as two loops in place keep them.
--
--   Row n b w             the words from 0 to b are residues modulo n
--   cofactor_of m k       the inverse of k modulo m + 1, where it is a unit
--   Passes n b k w w'     w' is w after k passes of differences
--   Grown n b j w w'      w' is w with Newton's terms from b down to j taken in: words j to b are a polynomial in powers of z
--
-- Letters: m is n less 1; b is the last point; r is the number of terms taken in.
use Rattle.std.specs.Prelude.{◌≡◌, List, ℕ, suc, ◌+◌, ◌<◌, ◌≤◌, length, get_or}
use Rattle.std.proofs.Common.{zero-lt-suc}
use Rattle.law_algebra.specs.Newton.{nest, Stage}
use Rattle.law_algebra.specs.Residues.{toRes, Res_ring}
use Rattle.law_numbers.specs.Divisors.{bezout_exists}

pub record Row (n b : ℕ) (w : List ℕ) : Type 0 where
  pub one : 1 ≤ n
  pub inside : b < length w
  pub below : (k : ℕ) → k ≤ b → get_or w k 0 < n

unfoldable pub cofactor_of : ℕ → ℕ → ℕ
cofactor_of m k = (bezout_exists (suc m) k (zero-lt-suc m)).s

pub record Passes (n b k : ℕ) (w w' : List ℕ) : Type 0 where
  pub same : length w' ≡ length w
  pub row : Row n b w'
  pub high : (i : ℕ) → b < i → get_or w' i 0 ≡ get_or w i 0
  pub held : (m : ℕ) → n ≡ suc m
      → Stage (Res_ring m) b (λ i. toRes m (cofactor_of m i)) (λ i. toRes m (get_or w i 0)) k (λ i. toRes m (get_or w' i 0))

pub record Grown (n b j : ℕ) (w w' : List ℕ) : Type 0 where
  pub same : length w' ≡ length w
  pub row : Row n b w'
  pub low : (i : ℕ) → i < j → get_or w' i 0 ≡ get_or w i 0
  pub high : (i : ℕ) → b < i → get_or w' i 0 ≡ get_or w i 0
  pub at : (m : ℕ) → n ≡ suc m → (r : ℕ) → j + r ≡ suc b → (k : ℕ) → k < r
      → toRes m (get_or w' (j + k) 0) ≡ nest (Res_ring m) r j (λ i. toRes m (get_or w (j + i) 0)) k
