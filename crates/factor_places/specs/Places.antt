-- The words of sixteen places, and the refusals that go by them. W is the width.
--
--   first_place_of k l           the first place of l that has k, or the length of l
--   sum, multiplied        the sum of words, their product modulo n
--   absent, taken, full    the tests of the refusals 14 and 13
--   arrival_tests, leaving_tests      the refusals of an arrival and of a leaving in their order
use Rattle.std.specs.Prelude.{Bool, true, cond, not, List, [], ◌∷◌, ◌++◌, ℕ, suc, ◌+◌, ◌*◌, ◌%◌, ltb, eqb}
use Rattle.definitions.specs.Polynomials.{deg}
use Rattle.refusals.specs.Refusals.{Width, Tested, bad_modulus_of, short, refusals_of_pair}

unfoldable pub first_place_of : ℕ → List ℕ → ℕ
first_place_of k [] = 0
first_place_of k (x ∷ l) = cond (eqb x k) 0 (suc (first_place_of k l))

unfoldable pub sum : List ℕ → ℕ
sum [] = 0
sum (x ∷ l) = x + sum l

-- "With no factor held, the product is the constant 1 and the reading is 1."
unfoldable pub multiplied : ℕ → List ℕ → ℕ
multiplied n [] = 1
multiplied n (x ∷ l) = (x * multiplied n l) % n

-- "a number 0 or … one not held on leaving"
abbrev pub absent : ℕ → List ℕ → Bool
absent k l = cond (eqb k 0) true (not (ltb (first_place_of k l) 16))

-- "a number 0 or one already held on arrival"
abbrev pub taken : ℕ → List ℕ → Bool
taken k l = cond (eqb k 0) true (ltb (first_place_of k l) 16)

-- "a seventeenth factor or a summed degree above 48": no place is free, or the degrees held and d add up to more
abbrev pub full : ℕ → List ℕ → List ℕ → Bool
full d number degree = cond (ltb (first_place_of 0 number) 16) (ltb 48 (sum degree + d)) true

-- "14 … then … 13 … both after 3"; "7 comes last wherever working words are lent". h is the polynomial held, l the number of working words.
abbrev pub arrival_tests : Width → ℕ → List ℕ → List ℕ → ℕ → List ℕ → List ℕ → ℕ → List Tested
arrival_tests W n number degree k f h l =
    refusals_of_pair W n f h ++ ((14, taken k number) ∷ (13, full (deg f) number degree) ∷ (7, short l W.working) ∷ [])

-- "every call on a state whose n is 0 or 1 refuses it with 1"
abbrev pub leaving_tests : Width → ℕ → List ℕ → ℕ → List Tested
leaving_tests W n number k = (1, bad_modulus_of W n) ∷ (14, absent k number) ∷ []
