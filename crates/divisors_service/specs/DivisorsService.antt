-- What D alone of many pairs answers, over any width W, and that a batch answers what the single calls answer. f holds count polynomials
-- of sent degree d one after the other, g as many of sent degree e.
--
--   DivisorsAnswer      all that is promised of a call
--   single_answers      where a batch is answered, the single call of each pair is answered
--   as_single           and its value is the word that the batch writes
use Rattle.std.specs.Prelude.{◌≡◌, List, ℕ, ◌<◌, ◌≤◌, length}
use Rattle.std.proofs.Common.{arith}
use Rattle.definitions.specs.Polynomials.{coef}
use Rattle.definitions.specs.Resultants.{Reduced}
use Rattle.law_polynomials.specs.ReachedLaws.{reduced_unique}
use Rattle.refusals.specs.Refusals.{Width}
use Rattle.divisor_service.specs.DivisorService.{DivisorAnswer, divisor_status}
use Rattle.batch_pairs.specs.Batches.{piece, BatchAnswer}
use Rattle.batch_pairs.specs.Singles.{all_served, single_served}

-- word i is D of the i-th pair: D of the single service
abbrev pub DivisorsAnswer : Width → ℕ → List ℕ → ℕ → List ℕ → (e count : ℕ) → (out out' work work' : List ℕ) → (value status : ℕ) → Type 0
DivisorsAnswer W n f d g e count out out' work work' value status =
    BatchAnswer (Reduced n) W n f d g e count out out' work work' value status

module _ {W : Width} {n : ℕ} {f : List ℕ} {d : ℕ} {g : List ℕ} {e count : ℕ} {out out' work work' : List ℕ} {value : ℕ}
    (t : DivisorsAnswer W n f d g e count out out' work work' value 0) {i : ℕ} (l : i < count) where
  pub single_answers : (w : List ℕ) → W.working ≤ length w → divisor_status W n (piece d i f) (piece e i g) (length w) ≡ 0
  single_answers w h = single_served t l (length w) h

  -- at most one number is D
  pub as_single : {w w' : List ℕ} {v : ℕ} → DivisorAnswer W n (piece d i f) (piece e i g) w w' v 0 → coef out' i ≡ v
  as_single s = reduced_unique (omega (arith, (all_served t).modulus.least)) (t.out_is.each i l) s.result
