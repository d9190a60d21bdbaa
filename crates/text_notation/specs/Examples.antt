-- Texts of the notation, and texts that are not: the examples that a reader of the request would try, computed.
use Rattle.std.specs.Prelude.{◌≡◌, refl, Bool, true, not, ◌&&◌, List, [], ◌∷◌}
use Prim.Native.String.{String}
use Rattle.refusals.specs.Refusals.{all_below_of}
use Rattle.text_notation.specs.Notation.{digits_within, terms, text}
use Rattle.text_notation.specs.Candidates.{gathered, same_text_of, is_text}
use Rattle.text_notation.specs.Quoted.{codes}

abbrev pub every : (String → Bool) → List String → Bool
every P [] = true
every P (s ∷ r) = P s && every P r

pub written : text (5 ∷ 0 ∷ 12 ∷ 1 ∷ 0 ∷ []) ≡ codes "1*x^3+12*x^2+5"
unfolding digits_within terms codes
written = refl

pub of_the_notation : every (λ (s : String). is_text 12 (codes s)) (
    "0" ∷ "1" ∷ "11" ∷ "1*x" ∷ "3*x+2" ∷ "10*x^2" ∷ "11*x^48+10*x^10+9*x^9+1*x+1" ∷ []
    ) ≡ true
unfolding digits_within terms codes gathered same_text_of all_below_of
of_the_notation = refl

pub at_the_largest_n : is_text 4294967295 (codes "4294967294*x^48+4294967294") && not (is_text 4294967295 (codes "4294967295")) ≡ true
unfolding digits_within terms codes gathered same_text_of all_below_of
at_the_largest_n = refl

pub not_of_the_notation : every (λ (s : String). not (is_text 12 (codes s))) (
    "" ∷ "12" ∷ "00" ∷ "01" ∷ "1*x+0" ∷ "0*x" ∷ "02*x" ∷ "1*x^02" ∷ "1+1*x" ∷ "1*x+1*x" ∷ "x" ∷ "*x" ∷ "1*x^1" ∷ "1*x^0" ∷ "1*x^49"
    ∷ "1*x^4294967297" ∷ "4294967297" ∷ "+1" ∷ "1+" ∷ "1 + 1" ∷ "1x" ∷ "1*y" ∷ "-1" ∷ []
    ) ≡ true
unfolding digits_within terms codes gathered same_text_of all_below_of
not_of_the_notation = refl
