-- The refusals of the law of products, over any width W: f, g and h are the polynomials sent.
--
--   law_sizes, law_words, law_sent    1 and 2; 3; both
--   law_room                          6 and 7
use Rattle.std.specs.Prelude.{not, List, [], ◌∷◌, ◌++◌, ℕ, ◌+◌, ltb}
use Rattle.definitions.specs.Polynomials.{deg}
use Rattle.refusals.specs.Refusals.{Width, Tested, bad_modulus_of, bad_length_of, all_below_of, short}

-- 1 and 2: of the product, and of h
abbrev pub law_sizes : Width → ℕ → List ℕ → List ℕ → List ℕ → List Tested
law_sizes W n f g h =
    (1, bad_modulus_of W n) ∷ (2, bad_length_of f) ∷ (2, bad_length_of g) ∷ (2, ltb 48 (deg f + deg g)) ∷ (2, bad_length_of h) ∷ []

-- 3
abbrev pub law_words : ℕ → List ℕ → List ℕ → List ℕ → List Tested
law_words n f g h = (3, not (all_below_of n f)) ∷ (3, not (all_below_of n g)) ∷ (3, not (all_below_of n h)) ∷ []

-- 1, 2 and 3
abbrev pub law_sent : Width → ℕ → List ℕ → List ℕ → List ℕ → List Tested
law_sent W n f g h = law_sizes W n f g h ++ law_words n f g h

-- 6 and 7: the buffers have lp, lu, lv and lw words; the product needs m, and a cofactor l
abbrev pub law_room : Width → ℕ → ℕ → ℕ → ℕ → ℕ → ℕ → List Tested
law_room W lp m lu lv l lw = (6, short lp m) ∷ (6, short lu l) ∷ (6, short lv l) ∷ (7, short lw W.working) ∷ []
