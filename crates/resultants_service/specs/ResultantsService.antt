-- What the resultants of many pairs answer, over any width W, and that a batch answers what the single calls answer. f holds count
-- polynomials of sent degree d one after the other, g as many of sent degree e.
--
--   IsResultant n x y r     r is the resultant of x and y
--   ResultantsAnswer        all that is promised of a call
--   resultants_of           the resultants of all pairs
--   resultants_words        the result words after an answer, as one equation
--   single_answers          where a batch is answered, the single call of each pair is answered
--   as_single               and its value is the word that the batch writes
use Rattle.std.specs.Prelude.{◌≡◌, List, ◌++◌, ℕ, ◌<◌, ◌≤◌, length, drop}
use Rattle.std.proofs.Common.{sym, ◌∙◌}
use Rattle.definitions.specs.Polynomials.{coef}
use Rattle.definitions.specs.Resultants.{resultant}
use Rattle.refusals.specs.Refusals.{Width}
use Rattle.resultant_service.specs.ResultantService.{ResultantAnswer, resultant_status}
use Rattle.batch_pairs.specs.Batches.{piece, BatchAnswer}
use Rattle.batch_pairs.specs.Singles.{words_of, pairs_words, single_served}

abbrev pub IsResultant : ℕ → List ℕ → List ℕ → ℕ → Type 0
IsResultant n x y r = r ≡ resultant n x y

-- word i is the resultant of the i-th pair: that of the single service
abbrev pub ResultantsAnswer : Width → ℕ → List ℕ → ℕ → List ℕ → (e count : ℕ) → (out out' work work' : List ℕ) → (value status : ℕ) → Type 0
ResultantsAnswer W n f d g e count out out' work work' value status =
    BatchAnswer (IsResultant n) W n f d g e count out out' work work' value status

abbrev pub resultants_of : ℕ → List ℕ → ℕ → List ℕ → (e count : ℕ) → List ℕ
resultants_of n f d g e count = words_of (resultant n) f d g e count

module _ {W : Width} {n : ℕ} {f : List ℕ} {d : ℕ} {g : List ℕ} {e count : ℕ} {out out' work work' : List ℕ} {value : ℕ}
    (t : ResultantsAnswer W n f d g e count out out' work work' value 0) where
  pub resultants_words : out' ≡ resultants_of n f d g e count ++ drop count out
  resultants_words = pairs_words (resultant n) t

  module _ {i : ℕ} (l : i < count) where
    pub single_answers : (w : List ℕ) → W.working ≤ length w → resultant_status W n (piece d i f) (piece e i g) (length w) ≡ 0
    single_answers w h = single_served t l (length w) h

    pub as_single : {w w' : List ℕ} {v : ℕ} → ResultantAnswer W n (piece d i f) (piece e i g) w w' v 0 → coef out' i ≡ v
    as_single s = t.out_is.each i l ∙ sym s.value_is
