-- Frames and answer lines as texts (S65 to S67). A line is the list of its characters, without its newline.
--
--   kind_of s, modulus_of s, first_degree s, second_degree s      the numbers at the head of a frame s
--   words_of k t                                                  k words of eight digits each
--   first_polynomial s, second_polynomial s                       the polynomials of a frame s
--   is_frame s                                                    whether s is a frame
--   answer_line k r v                                             the answer line of kind k, status r and value v
--   line_length                                                   it has 13 characters
--   ten_printed                                                   the answer line of a job refused with 10
use Rattle.std.specs.Prelude.{◌≡◌, refl, Bool, ◌&&◌, ◌||◌, List, [], ◌∷◌, ◌++◌, ℕ, zero, suc, ◌+◌, ◌*◌, length, take, drop, leb, eqb}
use Rattle.std.proofs.Common.{ap, ap₂, ◌∙◌, length-append}
use Rattle.hexadecimal.specs.Hexadecimal.{all_digits, number_of, digits_of}
use Rattle.hexadecimal.specs.DigitLaws.{digits_length}

-- S65: "kind (2 digits, 01 resultant, 02 reduced resultant), n (8), d (2), e (2)"
abbrev pub kind_of : List ℕ → ℕ
kind_of s = number_of (take 2 s)

abbrev pub modulus_of : List ℕ → ℕ
modulus_of s = number_of (take 8 (drop 2 s))

abbrev pub first_degree : List ℕ → ℕ
first_degree s = number_of (take 2 (drop 10 s))

abbrev pub second_degree : List ℕ → ℕ
second_degree s = number_of (take 2 (drop 12 s))

-- S65: "then d + 1 words of f and e + 1 words of g (8 each)"
unfoldable pub words_of : ℕ → List ℕ → List ℕ
words_of zero t = []
words_of (suc k) t = number_of (take 8 t) ∷ words_of k (drop 8 t)

abbrev pub count_of : List ℕ → ℕ
count_of s = first_degree s + 1 + (second_degree s + 1)

abbrev pub frame_words : List ℕ → List ℕ
frame_words s = words_of (count_of s) (drop 14 s)

abbrev pub first_polynomial : List ℕ → List ℕ
first_polynomial s = take (first_degree s + 1) (frame_words s)

-- S83: "the second polynomial is the part of the frame's words that begins after the first"
abbrev pub second_polynomial : List ℕ → List ℕ
second_polynomial s = drop (first_degree s + 1) (frame_words s)

-- S66: "Not a frame: an empty line, another character, another kind, a length that does not fit d and e, or more than 798 characters."
unfoldable pub is_frame : List ℕ → Bool
is_frame s = leb (length s) 798 && (all_digits s && ((eqb (kind_of s) 1 || eqb (kind_of s) 2) && eqb (length s) (14 + 8 * count_of s)))

-- S67: "kind as sent (ff after refusal 8), status (00 or the refusal number, 2 digits), value (8 digits), newline"
unfoldable pub answer_line : ℕ → ℕ → ℕ → List ℕ
answer_line k r v = digits_of 2 k ++ (digits_of 2 r ++ (digits_of 8 v ++ 10 ∷ []))

pub line_length : (k r v : ℕ) → length (answer_line k r v) ≡ 13
unfolding answer_line
line_length k r v =
    length-append (digits_of 2 k) (digits_of 2 r ++ (digits_of 8 v ++ 10 ∷ []))
    ∙ ap₂ ◌+◌ (digits_length 2 k) (length-append (digits_of 2 r) (digits_of 8 v ++ 10 ∷ [])
    ∙ ap₂ ◌+◌ (digits_length 2 r) (length-append (digits_of 8 v) (10 ∷ []) ∙ ap (λ (x : ℕ). x + 1) (digits_length 8 v)))

-- S69: "printed as 0a": the line 010a00000000
pub ten_printed : answer_line 1 10 0 ≡ 48 ∷ 49 ∷ 48 ∷ 97 ∷ 48 ∷ 48 ∷ 48 ∷ 48 ∷ 48 ∷ 48 ∷ 48 ∷ 48 ∷ 10 ∷ []
unfolding answer_line digits_of
ten_printed = refl
