-- Words, and zeros above.
use mathlib.Core.Path.{◌≡◌, subst}
use mathlib.Core.List.{List}
use Prim.Native.Nat.{ℕ}
use lib.ListN.{length, replicate}
use Rattle.windows.specs.Window.{Loaded}

pub placed : {n : ℕ} {s x₁ x : List ℕ} (x₀ : List ℕ) → x₁ ≡ replicate (length x₀) 0 → Loaded n 0 s x₁ x
    → Loaded n 0 s (replicate (length x₀) 0) x
placed {n} {s} {x₁} {x} x₀ e ld = subst (λ (y : List ℕ). Loaded n 0 s y x) e ld
