-- A quoted text as its characters' codes.
use mathlib.Core.List as lists
use Prim.Native.Char.{code}
use Rattle.std.specs.Prelude.{ℕ}
use Prim.Native.String.{String, [], ◌∷◌}

unfoldable pub codes : String → lists.List ℕ
codes [] = lists.[]
codes (c ∷ s) = lists.◌∷◌ (code c) (codes s)
