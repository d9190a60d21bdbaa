-- What the cofactors ask, of the multipliers in words of 64 bits.
--
--   hand_asked    what is asked
--   wide_tries    the rules
use mathlib.Core.List.{List}
use Prim.Native.Nat.{ℕ, ◌≤◌}
use native.Mathlib.Omega.{arith}
use lib.ListN.{length}
use Rattle.euclid_steps.specs.Multiplied.{Multiplied}
use Rattle.reduced_quick.specs.Quick.{QuickAsked}
use Rattle.reduced_quick.proofs.QuickAttempts.{long_enough, tries}
use Rattle.reduction64.specs.declared.Reciprocal.{Reciprocal}
use Rattle.reduction64.specs.Moduli.{Ready}
use Rattle.modulus64.specs.Plain.{plain}
use Rattle.euclid_steps.specs.declared.Ending.{Ending}
use Rattle.multiplier_words64.specs.Words.{HandAsked}

pub hand_asked : {m : Reciprocal} {f g u v w : List ℕ} {r : Ending ℕ} {w' : List ℕ} → QuickAsked m.n f g u v w → length f ≤ length g
    → Multiplied (plain m) f g r w' → Ready m → HandAsked m r (length g) (length g) w' u v
hand_asked k l mu ready = record {
  known = ready;
  factor = omega (arith, mu.k_below);
  inside_u = mu.inside_u;
  inside_v = mu.inside_v;
  below_u = mu.below_u;
  below_v = mu.below_v;
  room_u = long_enough k l k.first;
  room_v = long_enough k l k.second;
}

pub ruleset wide_tries = (hand_asked, tries)
