-- The words lent to a run, and the working words after it.
--
--   wiped_after     wiped after a run that keeps their number
--   back            the working words, after a part of them came back as zeros
--   few_back        the same, after as many of them as f and g have
--   job_back        they are still what a job asks for
--   all_back        they are wiped after that
use mathlib.Core.Path.{◌≡◌, sym, ap, ◌∙◌}
use mathlib.Core.List.{List, ◌++◌}
use Prim.Native.Nat.{ℕ, ◌+◌, ◌-◌, ◌≤◌}
use native.Mathlib.Omega.{arith}
use lib.ListN.{length, take, replicate, length-replicate}
use lib.Seq.{length-take-le}
use borrow.Rule.Slice.PartMut.{post_of}
use Rattle.windows.specs.Window.{Scratch}
use Rattle.frame_runs.specs.Working.{Working, working_of, working_part}
use Rattle.frame_runs.specs.Jobs.{JobAsked}

pub wiped_after : {w w₁ w₂ : List ℕ} → Scratch w w₁ → w₂ ≡ replicate (length w₁) 0 → w₂ ≡ replicate (length w) 0
wiped_after h e = e ∙ ap (λ (k : ℕ). replicate k 0) h.same

pub back : {n k : ℕ} {f g w x : List ℕ} → JobAsked n f g w → k ≤ 8192 → x ≡ replicate (length (take k w)) 0
    → x ++ post_of 0 k w ≡ replicate (length w) 0
back {k = k} {w = w} {x = x} j l e =
    let h = j.working in
    let s : length (take k w) ≡ k = length-take-le k w (omega (arith, h.enough)) in
    let z : x ≡ replicate k 0 = e ∙ ap (λ (y : ℕ). replicate y 0) s in
    working_part k h (omega (arith, h.enough)) z

-- the first words, as many as f and g have
abbrev room : List ℕ → List ℕ → ℕ
room f g = length f + length g - 0

pub few_back : {n : ℕ} {f g w x : List ℕ} → JobAsked n f g w → x ≡ replicate (length (take (room f g) w)) 0
    → x ++ post_of 0 (room f g) w ≡ replicate (length w) 0
few_back {f = f} {g = g} j e = back {k = room f g} j (omega (arith, j.most_f, j.most_g)) e

pub job_back : {n : ℕ} {f g w x : List ℕ} → JobAsked n f g w → x ≡ replicate (length (take (room f g) w)) 0
    → JobAsked n f g (x ++ post_of 0 (room f g) w)
job_back {w = w} j e = record {
  modulus = j.modulus;
  least_f = j.least_f;
  most_f = j.most_f;
  least_g = j.least_g;
  most_g = j.most_g;
  working = working_of (length w) (few_back j e) j.working.enough;
}

-- and wiped after the general run, which was lent all of them
pub all_back : {n : ℕ} {f g w : List ℕ} (x y : List ℕ) → JobAsked n f g w → x ≡ replicate (length (take (room f g) w)) 0
    → y ≡ replicate (length (x ++ post_of 0 (room f g) w)) 0 → y ≡ replicate (length w) 0
all_back {w = w} x y j e h = h ∙ ap (λ (i : ℕ). replicate i 0) (ap length (few_back j e) ∙ length-replicate (length w) 0)
