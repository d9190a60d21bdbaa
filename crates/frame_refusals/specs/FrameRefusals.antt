-- The refusals of a frame's job (S68). n is its modulus, f and g its polynomials.
--
--   zero_top_of f                                  whether the top word of f is 0
--   top_refusals f g, job_refusals n f g        refusal 10; the refusals of a job, in their order
use Rattle.std.specs.Prelude.{Bool, List, [], ◌∷◌, ◌++◌, ℕ, eqb}
use Rattle.definitions.specs.Polynomials.{coef, deg}
use Rattle.refusals.specs.Refusals.{narrow, Tested, refusals_of_pair}

-- the top word is that of the sent degree
abbrev pub zero_top_of : List ℕ → Bool
zero_top_of f = eqb (coef f (deg f)) 0

-- S69: "It refuses with 10 a frame of kind 01 or 02 in which the top word of f or g is zero (the single word 0 included)"
abbrev pub top_refusals : List ℕ → List ℕ → List Tested
top_refusals f g = (10, zero_top_of f) ∷ (10, zero_top_of g) ∷ []

-- The refusals 1, 2 and 3, as of the services, and 10, "tested after 3 and printed as 0a" (S68, S69). A frame's line and the
-- program's buffers leave none of the others.
abbrev pub job_refusals : ℕ → List ℕ → List ℕ → List Tested
job_refusals n f g = refusals_of_pair narrow n f g ++ top_refusals f g
