-- The writer's promise where it answers, and what its calls ask: rules for `search returning`.
use mathlib.Core.Path.{◌≡◌, refl, sym, ap, ◌∙◌}
use mathlib.Core.List.{List, [], ◌∷◌, ◌++◌}
use Prim.Native.Nat.{ℕ, ◌-◌, ◌≤◌}
use native.Mathlib.Omega.{arith}
use borrow.Author.Rules.{rules}
use lib.ListN.{length, drop, replicate, length-append, length-replicate}
use Rattle.refusals.specs.Refusals.{narrow, short, refusals_one}
use Rattle.refusals.specs.Conditions.{accepted_one, status_zero}
use Rattle.refusals.proofs.Statuses.{front_passes}
use Rattle.text_notation.specs.Notation.{text, padded}
use Rattle.text_notation.proofs.Lengths.{text_short}
use Rattle.text_writer_service.specs.Parts.{Put}
use Rattle.text_writer_service.specs.TextWriter.{write_refusals, write_status, write_conditions, write_listed, WriteAnswer}
use Rattle.text_writer_service.proofs.Putting.{put_then}

module _ (n : ℕ) (f t : List ℕ) (e : 0 ≡ write_status narrow n f (length t)) where
  pub bytes_after : (w : List ℕ) → length w ≡ length t → 800 ≤ length w
  bytes_after w l =
      let p = (status_zero (write_refusals narrow n f (length t)) (write_conditions narrow n f (length t)) (write_listed narrow n f (length t))).0
      (sym e) in
      omega (arith, l, p.1.1.1.0)

  module _ {r : ℕ} {w : List ℕ} (p : Put (text f) 0 r t w) where
    -- 767 characters are enough
    text_within : length (text f) ≤ 767
    text_within =
        let a = accepted_one narrow n f (front_passes (refusals_one narrow n f) ((6, short (length t) 800) ∷ []) (sym e)) in
        text_short f a.few (λ i l. omega (arith, a.residues.at i l, a.bounded))

    pub count_most : r ≤ 800
    count_most = omega (arith, p.end, text_within)

    pub done : {v : List ℕ} → Put (replicate (800 - r) 0) r 800 w v → WriteAnswer narrow n f t v r 0
    done q =
        let all = put_then p (omega (arith, count_most, bytes_after t refl)) q in
        let l : 800 - r ≡ 800 - length (text f) = omega (arith, p.end) in
        let m : 800 ≡ length (padded 800 (text f)) =
        omega (
          arith,
          length-append (text f) (replicate (800 - length (text f)) 0),
          length-replicate {A = ℕ} (800 - length (text f)) 0,
          text_within,
        ) in
        record {
          status_is = e;
          value_is = omega (arith, p.end);
          text_is = all.is ∙ ap (λ (k : ℕ). (text f ++ replicate k 0) ++ drop 800 t) l
              ∙ ap (λ (k : ℕ). padded 800 (text f) ++ drop k t) m;
        }

pub ruleset returning = (rules, bytes_after, count_most, done)
