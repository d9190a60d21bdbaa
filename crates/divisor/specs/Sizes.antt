-- The sizes that a run for D asks for.
--
--   divisor_room M               the words that the run needs where no sent degree is above M
--   DivisorLengthsAsked f g w    f and g have 1 to 49 words, and w has as many as the run needs for them
--   divisor_sizes                the working buffer of a service is enough
use Rattle.std.specs.Prelude.{List, ℕ, ◌+◌, ◌*◌, ◌≤◌, length}
use Rattle.std.proofs.Common.{arith}
use Rattle.windows.specs.Window.{Scratch}

-- both polynomials, and what it takes to write one of them as a unit polynomial times a monic one
abbrev pub divisor_room : ℕ → ℕ
divisor_room M = 5 * (M + 1)

-- "d from 0 to 48": 245 words, of the 8192 that a working buffer has
pub record DivisorLengthsAsked (f g w : List ℕ) : Type 0 where
  pub least_f : 1 ≤ length f
  pub most_f : length f ≤ 49
  pub least_g : 1 ≤ length g
  pub most_g : length g ≤ 49
  pub working : divisor_room 48 ≤ length w

pub divisor_sizes : (f g w : List ℕ) → 1 ≤ length f → length f ≤ 49 → 1 ≤ length g → length g ≤ 49 → 8192 ≤ length w
    → DivisorLengthsAsked f g w
divisor_sizes f g w a b c d l = record { least_f = a; most_f = b; least_g = c; most_g = d; working = omega arith }

-- f and g in the other order, and after a run that loses the working words
pub sizes_swapped : {f g w : List ℕ} → DivisorLengthsAsked f g w → DivisorLengthsAsked g f w
sizes_swapped s = record { least_f = s.least_g; most_f = s.most_g; least_g = s.least_f; most_g = s.most_f; working = s.working }

pub sizes_after : {f g w w' : List ℕ} → DivisorLengthsAsked f g w → Scratch w w' → DivisorLengthsAsked f g w'
sizes_after s h = record {
  least_f = s.least_f;
  most_f = s.most_f;
  least_g = s.least_g;
  most_g = s.most_g;
  working = omega (arith, s.working, h.same);
}
