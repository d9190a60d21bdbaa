-- What two polynomials can have in common modulo m, over any m.
--
--   DividesModulo m h f    h divides f modulo m: a quotient exists
--   ZeroModulo m f         every coefficient of f is a multiple of m
--   OnlyZero m f g         f and g combine to no constant but 0 modulo m
use Rattle.std.specs.Prelude.{List, ℕ}
use Rattle.std.specs.Int.{◌∣◌}
use Rattle.definitions.specs.Polynomials.{coef, Multiplied}
use Rattle.definitions.specs.Resultants.{Reached}

-- "divides both modulo m" (02, W4): f is the quotient times h
pub record DividesModulo (m : ℕ) (h f : List ℕ) : Type 0 where
  pub quotient : List ℕ
  pub equation : Multiplied m f quotient h

-- "zero modulo m" (02, W4)
pub record ZeroModulo (m : ℕ) (f : List ℕ) : Type 0 where
  pub at : (k : ℕ) → m ∣ coef f k

-- "D = n says that only zero is reached", said of the modulus m
pub record OnlyZero (m : ℕ) (f g : List ℕ) : Type 0 where
  pub at : (c : ℕ) → Reached m f g c → m ∣ c
