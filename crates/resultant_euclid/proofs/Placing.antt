-- Two polynomials that were loaded, f from 0 on and g after it.
--
--   placed_words    where what the words stand for stands in its places, the words do: they are residues
use mathlib.Core.Path.{sym, subst}
use mathlib.Core.List.{List}
use Prim.Native.Nat.{ℕ, ◌+◌, ◌-◌, ◌≤◌, ◌<◌}
use native.Mathlib.Omega.{arith}
use lib.ListN.{length}
use Rattle.modulus.specs.declared.Modulus.{Modulus}
use Rattle.modulus.specs.Values.{values}
use Rattle.modulus_windows.specs.LoopPromises.{Entered}
use Rattle.modulus_windows.proofs.Forms.{values_length}
use Rattle.resultant_pseudo.specs.StandingRuns.{Placed}

pub placed_words : (m : Modulus) (f g w w₁ w₂ : List ℕ) → 1 ≤ length f → 1 ≤ length g → Entered m 0 f w w₁ → Entered m (length f) g w₁ w₂
    → Placed m.n 0 (length f - 1) (length f) (length g - 1) (values m w₂) → Placed m.n 0 (length f - 1) (length f) (length g - 1) w₂
placed_words m f g w w₁ w₂ some_f some_g lf lg p = record {
  pos = p.pos;
  near = p.near;
  first = omega (arith, p.first, values_length m w₂);
  second = omega (arith, p.second, values_length m w₂);
  pair = record {
    first = record {
      at = λ k l. subst (λ (x : ℕ). x < m.n) (sym (lg.around.low (0 + k) (omega arith)))
          (lf.below.at k (omega arith));
    };
    second = record { at = λ k l. lg.below.at k (omega arith) };
    apart = p.pair.apart;
  };
}
