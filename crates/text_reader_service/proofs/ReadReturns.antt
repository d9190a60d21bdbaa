-- The reader's promise at each place where it returns, from what the code hands over there: g are the words that the text s comes to,
-- w the words lent, v and st what is answered.
--
--   kept d                    how many words are kept where the degree is told as d
--   all_lent                  the end of `hand_over`
--   by_degree                 the rules of `read_words`
--   by_text                   the rules of `read_text`
use mathlib.Core.Path.{◌≡◌, refl, sym, ap, ap₂, ◌∙◌, subst}
use mathlib.Core.Bool.{Bool, true, false, not, ◌&&◌, and-true, and-false}
use mathlib.Core.List.{List, [], ◌∷◌, ◌++◌}
use Prim.Native.Nat.{ℕ, suc, ◌+◌, ◌≤◌, ◌<◌}
use native.Mathlib.Omega.{arith}
use lib.Dec.{T, ltb, ltb→lt}
use lib.ListN.{length, take, drop, replicate}
use lib.Seq.{take_all}
use mir.Syntax.{w32}
use mir.Val.{Fits}
use Rattle.definitions.specs.Polynomials.{TrueDegree, none, place, true_degree}
use Rattle.refusals.specs.Refusals.{Tested, narrow, bad_modulus_of, all_below_of, short, first_refusal, refusals_one}
use Rattle.refusals.specs.Refusals.{answered, replaced}
use Rattle.refusals.specs.Conditions.{accepted_one, modulus_fails, residues_below}
use Rattle.refusals.proofs.Statuses.{row_applies, row_passes, long_enough}
use Rattle.degree_service.specs.declared.Degree.{Degree}
use Rattle.degree_service.specs.declared.Degree.TheVariants.{None, At, Refused}
use Rattle.degree_service.specs.DegreeService.{told, degree_number, TrueDegreeAnswer}
use Rattle.text_notation.specs.Notation.{text, last_place, dropped, padded}
use Rattle.text_notation.proofs.Lengths.{long_other}
use Rattle.text_notation.proofs.Tops.{dropped_within, dropped_length, padded_dropped}
use Rattle.text_notation.specs.Candidates.{gathered, same_text_of, is_text_of, is_text}
use Rattle.text_notation.proofs.NotationLaws.{gathered_length, text_found, test_same}
use Rattle.text_gathering.specs.InWord.{in_word}
use Rattle.text_gathering.proofs.Gathering.{fits_in_word}
use Rattle.text_reader_service.specs.TextReader.{HandedOver, WordsAnswer, ReadAnswer}

answered_below : (st : ℕ) (a t : Bool) → st ≡ 0 → st ≡ first_refusal ((17, not a) ∷ (6, t) ∷ []) → a ≡ true
answered_below st true t z e = refl
answered_below st false t z e = absurd (omega arith)

-- how many words are kept: "a zero polynomial comes back as the single word 0"
abbrev kept : Degree → ℕ
kept None = 1
kept (At k) = k + 1
kept (Refused k) = 0

kept_told : (t : TrueDegree) → kept (told 0 t) ≡ suc (last_place t)
kept_told none = refl
kept_told (place k) = omega arith

-- ---- what is handed over

pub all_lent : {g w w' : List ℕ} {count : ℕ} → length g ≡ 49 → 49 ≤ length w → w' ≡ take 49 g ++ drop 49 w → HandedOver g count w w' count 0
all_lent {g} {w} l h e = record {
  status_is = long_enough 6 (length w) 49 [] 0 h refl;
  value_is = refl;
  words_are = e ∙ ap₂ (λ (x : List ℕ) (k : ℕ). x ++ drop k w) (take_all 49 g (omega (arith, l))) (sym l);
}

-- ---- by the degree that is told of the words

module _ {n : ℕ} {g : List ℕ} {r : Degree} (b : bad_modulus_of narrow n ≡ false) (l : length g ≡ 49) (a : TrueDegreeAnswer narrow n g r) where
  case_told : (d : Degree) → r ≡ d → d ≡ told (degree_number d) (true_degree g)
  case_told d e = sym e ∙ a.case_is ∙ ap (λ (x : Degree). told (degree_number x) (true_degree g)) e

  number_is : (d : Degree) → r ≡ d → degree_number d ≡ first_refusal (refusals_one narrow n g)
  number_is d e = ap degree_number (sym e) ∙ a.status_is

  kept_is : (d : Degree) → r ≡ d → degree_number d ≡ 0 → kept d ≡ suc (last_place (true_degree g))
  kept_is d e z = ap kept (case_told d e) ∙ ap (λ (k : ℕ). kept (told k (true_degree g))) z ∙ kept_told (true_degree g)

  -- the sum of an answer, whatever small number is added
  pub count_fits : {k : ℕ} (j : ℕ) → r ≡ At k → T (ltb j 49) → Fits w32 (k + j)
  count_fits {k} j e h =
      record { fits = omega (arith, kept_is (At k) e refl, dropped_within g (omega (arith, l)), l, ltb→lt j 49 h) }

  handed : (d : Degree) → r ≡ d → degree_number d ≡ 0 → {w w' : List ℕ} {v st : ℕ} → HandedOver g (kept d) w w' v st
      → WordsAnswer n g w w' v st
  handed d e z {w} {w'} {v} {st} h =
      let accepted = accepted_one narrow n g (sym (number_is d e) ∙ z) in
      let count : kept d ≡ length (dropped g) = kept_is d e z ∙ sym (dropped_length g (omega (arith, l))) in
      record {
        status_is = row_passes 17 (not (all_below_of n g)) ((6, short (length w) 49) ∷ []) st
            (ap not (residues_below n g accepted.residues)) h.status_is;
        value_is = h.value_is ∙ ap (answered st) count;
        words_are = h.words_are;
      }

  pub at_handed : {w w' : List ℕ} {v st k : ℕ} → r ≡ At k → HandedOver g (k + 1) w w' v st → WordsAnswer n g w w' v st
  at_handed {w} {w'} {v} {st} {k} e h = handed (At k) e refl h

pub ruleset by_degree = (tt, count_fits, at_handed)

-- ---- the text

-- the refusals after 1
abbrev after_modulus : ℕ → List ℕ → List ℕ → List Tested
after_modulus n s w = (17, not (is_text n s)) ∷ (6, short (length w) 49) ∷ []

refused_answer : {n k : ℕ} {s w : List ℕ} {v st : ℕ} → suc k ≡ first_refusal ((1, bad_modulus_of narrow n) ∷ after_modulus n s w)
    → v ≡ 0 → st ≡ suc k → ReadAnswer narrow n s w w v st
refused_answer {n} {k} {s} {w} {v} {st} h e z =
    subst (λ (x : ℕ). ReadAnswer narrow n s w w x st) (sym e) (subst (λ (x : ℕ). ReadAnswer narrow n s w w 0 x) (sym z) (record {
      polynomial = [];
      status_is = h;
      text_is = λ q. absurd (omega arith);
      value_is = refl;
      words_are = refl;
    }))

pub modulus_passed : (n : ℕ) (t : Bool) → t ≡ bad_modulus_of narrow n → t ≡ false → bad_modulus_of narrow n ≡ false
modulus_passed n t b e = sym b ∙ e

pub gathered_49 : (s g : List ℕ) → g ≡ gathered in_word s 0 0 (replicate 49 0) → length g ≡ 49
gathered_49 s g e = ap length e ∙ gathered_length in_word s 0 0 (replicate 49 0)

module _ (n : ℕ) (s w : List ℕ) (t : Bool) (b : t ≡ bad_modulus_of narrow n) (f : t ≡ false) where
  below : n < 4294967296
  below = ((modulus_fails narrow n).passed (sym b ∙ f)).most

  other : {v st : ℕ} → is_text n s ≡ false → v ≡ 0 → st ≡ 17 → ReadAnswer narrow n s w w v st
  other e =
      refused_answer (row_passes 1 (bad_modulus_of narrow n) (after_modulus n s w) 17 (sym b ∙ f)
      (row_applies 16 (not (is_text n s)) ((6, short (length w) 49) ∷ []) (ap not e)))

  pub long_refused : {v st : ℕ} → 767 < length s → v ≡ 0 → st ≡ 17 → ReadAnswer narrow n s w w v st
  long_refused l = other (long_other n s (omega (arith, below)) l)

  module _ (g : List ℕ) (eg : g ≡ gathered in_word s 0 0 (replicate 49 0)) (q : Bool) (same : q ≡ same_text_of s (text g)) where
    tested : is_text_of n s g ≡ is_text n s
    tested = ap (is_text_of n s) eg ∙ test_same in_word 4294967296 fits_in_word (omega arith) n s (omega (arith, below))

    pub text_refused : {v st : ℕ} → q ≡ false → v ≡ 0 → st ≡ 17 → ReadAnswer narrow n s w w v st
    text_refused e = other (sym tested ∙ ap (λ (x : Bool). all_below_of n g && x) (sym same ∙ e) ∙ and-false (all_below_of n g))

    pub words_answered : {w' : List ℕ} {v st : ℕ} → q ≡ true → WordsAnswer n g w w' v st → ReadAnswer narrow n s w w' v st
    words_answered {w'} {v} {st} e h =
        let l = gathered_49 s g eg in
        let words : g ≡ padded 49 (dropped g) =
        sym (padded_dropped g (omega (arith, l))) ∙ ap (λ (k : ℕ). padded k (dropped g)) l in
        let is : is_text n s ≡ all_below_of n g =
        sym tested ∙ ap (λ (x : Bool). all_below_of n g && x) (sym same ∙ e) ∙ and-true (all_below_of n g) in
        record {
          polynomial = dropped g;
          status_is = row_passes 1 (bad_modulus_of narrow n) (after_modulus n s w) st (sym b ∙ f)
              (h.status_is ∙ ap (λ (x : Bool). first_refusal ((17, not x) ∷ (6, short (length w) 49) ∷ [])) (sym is));
          text_is = λ z. text_found n s g l (tested ∙ is ∙ answered_below st (all_below_of n g) (short (length w) 49) z h.status_is);
          value_is = h.value_is;
          words_are = h.words_are ∙ ap (λ (x : List ℕ). replaced st x w) words;
        }

pub ruleset by_text = (modulus_passed, gathered_49, long_refused, text_refused, words_answered)
