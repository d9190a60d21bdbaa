-- The working words of frames: all are zero before a job and after it, so that a job has to wipe no more than it was lent.
--
--   Working w       8192 words or more, all zero
--   working_of      zeros, as many as are needed
--   working_part    where the first words were lent and came back as zeros, all are zero
use Rattle.std.specs.Prelude.{◌≡◌, refl, List, [], ◌∷◌, ◌++◌, ℕ, zero, suc, ◌+◌, ◌-◌, ◌≤◌, length, take, drop, replicate}
use Rattle.std.proofs.Common.{sym, ap, ap₂, ◌∙◌, arith, length-drop}
use Rattle.std.proofs.lemmas.List.{length-replicate, replicate-append-replicate}
use borrow.Rule.Slice.PartMut.{post_of}

pub record Working (w : List ℕ) : Type 0 where
  pub enough : 8192 ≤ length w
  pub zeros : w ≡ replicate (length w) 0

pub working_of : {w : List ℕ} (k : ℕ) → w ≡ replicate k 0 → 8192 ≤ k → Working w
working_of {w} k e h =
    let l : length w ≡ k = ap length e ∙ length-replicate k 0 in
    record { enough = omega arith; zeros = e ∙ ap (λ (x : ℕ). replicate x 0) (sym l) }

drop_zeros : (k m : ℕ) → drop {A = ℕ} k (replicate m 0) ≡ replicate (m - k) 0
drop_zeros zero m = let e : m ≡ m - 0 = omega arith in ap (λ (x : ℕ). replicate x 0) e
drop_zeros (suc k) zero = let e : 0 ≡ 0 - suc k = omega arith in ap (λ (x : ℕ). replicate x 0) e
drop_zeros (suc k) (suc m) = drop_zeros k m ∙ (let e : m - k ≡ suc m - suc k = omega arith in ap (λ (x : ℕ). replicate x 0) e)

pub working_part : (k : ℕ) {w x : List ℕ} → Working w → k ≤ length w → x ≡ replicate k 0
    → x ++ post_of 0 k w ≡ replicate (length w) 0
working_part k {w} {x} h l e =
    let sum : k + (length w - k) ≡ length w = omega arith in
    ap₂ (λ (y z : List ℕ). y ++ z) e (ap (drop k) h.zeros ∙ drop_zeros k (length w))
    ∙ replicate-append-replicate k (length w - k) 0 ∙ ap (λ (y : ℕ). replicate y 0) sum
