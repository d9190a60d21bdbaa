-- What S20 and S48 say of the resultant of two polynomials in two variables. "The words of f are d + 1 groups of a + 1 words,
-- constant first in y and within each group constant first in z": word j of group i is the coefficient of y to the i, z to the j.
--
--   group a f i           the coefficient of y to the i, a polynomial in z
--   bivariate_resultant_of n d a e b f g k     word k of the resultant in y
--   bivariate_degree d a e b    B, its degree in z
use Rattle.std.specs.Prelude.{List, cond, ℕ, suc, ◌+◌, ◌*◌, leb, ℤ, pos}
use Rattle.definitions.specs.Expansions.{polynomials, expansion, rows_of}
use Rattle.definitions.specs.Polynomials.{coef}
use Rattle.definitions.specs.Resultants.{residue}

-- the coefficient of y to the i, a polynomial of degree a in z
abbrev pub group : ℕ → List ℕ → ℕ → ℕ → ℤ
group a f i j = cond (leb j a) (pos (coef f (i * suc a + j))) (pos 0)

-- S20: "It must equal the Sylvester determinant worked with polynomials in z": f of degrees d in y and a in z, g of e and b
unfoldable pub bivariate_resultant_of : (n d a e b : ℕ) → List ℕ → List ℕ → ℕ → ℕ
bivariate_resultant_of n d a e b f g k = residue n (expansion polynomials (d + e) (rows_of polynomials d e (group a f) (group b g)) k)

-- S20: "B = e times a plus d times b"
abbrev pub bivariate_degree : (d a e b : ℕ) → ℕ
bivariate_degree d a e b = e * a + d * b
