-- What S7, S8, S10 and S11 say of the resultant and of the reduced resultant. f and g are polynomials of sent degrees d and e.
--
--   sylvester f g         Sylvester's matrix in the sent degrees
--   determinant n a       Laplace's expansion along the first column, of integers
--   resultant n f g       the determinant of Sylvester's matrix, from 0 to n - 1
--   Reached n f g c       f and g combine to the constant c
--   Reduced n f g D       D is the reduced resultant
use Rattle.std.specs.Prelude.{◌≡◌, List, ℕ, suc, ◌+◌, ◌-◌, ◌%◌, ◌<◌, ◌≤◌, ℤ, pos, negsuc}
use Rattle.std.specs.Int.{◌∣◌}
use Rattle.definitions.specs.Expansions.{integers, expansion, rows_of}
use Rattle.definitions.specs.Polynomials.{coef, deg, convolve, constant}

-- S7: "first e rows hold f, highest coefficient first, each row one column further right; then d rows hold g likewise"
abbrev pub sylvester : List ℕ → List ℕ → ℕ → ℕ → ℤ
sylvester f g = rows_of integers (deg f) (deg g) (λ k. pos (coef f k)) (λ k. pos (coef g k))

-- S8: "With d = e = 0 the determinant is 1."
abbrev pub determinant : ℕ → (ℕ → ℕ → ℤ) → ℤ
determinant = expansion integers

-- an integer modulo n, from 0 to n - 1
abbrev pub residue : ℕ → ℤ → ℕ
residue n (pos a) = a % n
residue n (negsuc a) = (n - suc a % n) % n

-- the determinant of the Sylvester matrix, as a residue
unfoldable pub resultant : ℕ → List ℕ → List ℕ → ℕ
resultant n f g = residue n (determinant (deg f + deg g) (sylvester f g))

-- u f + v g is the constant c modulo n
pub record Combination (n : ℕ) (f g u v : List ℕ) (c : ℕ) : Type 0 where
  pub sum : (k : ℕ) → (convolve (coef u) (coef f) k + convolve (coef v) (coef g) k) % n ≡ constant c k % n

-- S10: "A constant c … is reached if some polynomials u and v, of any degree, make uf + vg equal to c modulo n"
pub record Reached (n : ℕ) (f g : List ℕ) (c : ℕ) : Type 0 where
  pub u : List ℕ
  pub v : List ℕ
  pub combination : Combination n f g u v c

-- S11: "D runs from 1 to n and divides n. A constant c from 0 to n - 1 … is reached exactly when D divides c."
pub record Reduced (n : ℕ) (f g : List ℕ) (D : ℕ) : Type 0 where
  pub divides : D ∣ n
  pub least : 1 ≤ D
  pub most : D ≤ n
  pub only : (c : ℕ) → c < n → Reached n f g c → D ∣ c
  pub all : (c : ℕ) → c < n → D ∣ c → Reached n f g c
