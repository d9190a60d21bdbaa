-- What a run over two polynomials in y and z asks: f of degrees d in y and a in z, g of e and b.
--
--   PairLengthsAsked f d a g e b w   the words fit the degrees, and w has as many as a run of the resultant needs
--   InWords p d q e w                the first words of p and of q are polynomials of degrees d and e, and w is as long
--   Prepared n last f d a g e b out w     all that the resultant of two variables asks; last is B
--   value_at n f d a g e b z  the resultant of the pair at the point z
use Rattle.std.specs.Prelude.{◌≡◌, List, ℕ, suc, ◌*◌, ◌<◌, ◌≤◌, length}
use Rattle.definitions.specs.Resultants.{resultant}
use Rattle.definitions.specs.Bivariate.{bivariate_degree}
use Rattle.law_numbers.specs.PrimeTable.{UnitDifferences}
use Rattle.law_polynomials.specs.BivariateLaws.{evaluated}
use Rattle.resultant.specs.Sizes.{resultant_room}

-- S48: "The words of f are d + 1 groups of a + 1 words"; the values are in the result buffer, the pair at a point and the run's room in w
pub record PairLengthsAsked (f : List ℕ) (d a : ℕ) (g : List ℕ) (e b : ℕ) (w : List ℕ) : Type 0 where
  pub most_d : d ≤ 48
  pub most_e : e ≤ 48
  pub words_f : length f ≡ suc d * suc a
  pub words_g : length g ≡ suc e * suc b
  pub working : resultant_room 48 ≤ length w

pub record InWords (p : List ℕ) (d : ℕ) (q : List ℕ) (e : ℕ) (w : List ℕ) : Type 0 where
  pub most_d : d ≤ 48
  pub most_e : e ≤ 48
  pub words_p : d < length p
  pub words_q : e < length q
  pub working : resultant_room 48 ≤ length w

pub record Prepared (n last : ℕ) (f : List ℕ) (d a : ℕ) (g : List ℕ) (e b : ℕ) (out w : List ℕ) : Type 0 where
  pub two : 2 ≤ n
  pub sizes : PairLengthsAsked f d a g e b w
  pub degree : last ≡ bivariate_degree d a e b
  pub inside : last < length out
  pub apart : UnitDifferences n last

abbrev pub value_at : (n : ℕ) → List ℕ → (d a : ℕ) → List ℕ → (e b z : ℕ) → ℕ
value_at n f d a g e b z = resultant n (evaluated d a f z) (evaluated e b g z)
