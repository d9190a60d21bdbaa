-- The rounds of the loops with held multipliers.
--
--   scaling_held    a product with a held multiplier, as it is written
--   before_held     the word before is a residue
--   holding         the rules
use mathlib.Core.Path.{◌≡◌, refl, sym, ◌∙◌}
use mathlib.Core.List.{List}
use Prim.Native.Nat.{ℕ, ◌+◌, ◌*◌, ◌%◌, ◌≤◌, ◌<◌}
use native.Mathlib.Nat.{mod-eq_of_lt}
use native.Mathlib.Omega.{arith}
use borrow.Author.Rules.{rules}
use lib.ListN.{length, get_or, set}
use Rattle.windows.specs.Window.{Below, Clear, mulBy}
use Rattle.windows.proofs.WindowRounds.{Moving, moving_by}
use Rattle.window_combining.proofs.Steps.{Combining, before_below, source_below, target_below}
use Rattle.montgomery.specs.Held.{plain, Formed}
use Rattle.montgomery.specs.Decoding.{plain_below, plain_mul}
use Rattle.montgomery.specs.declared.Form.{Form}

module _ (form : Form) (f : Formed form) {src dst len j : ℕ} {w₀ w : List ℕ} where
  pub scaling_held : {j' : ℕ} {w' : List ℕ} (c r : ℕ) → Moving (mulBy form.n (plain form.n c)) src dst len w₀ w j → Clear src dst len
      → dst + len ≤ length w₀ → j < len → r ≡ plain form.n (c * get_or w (src + j) 0) → w' ≡ set w (dst + j) r → j' ≡ j + 1
      → Moving (mulBy form.n (plain form.n c)) src dst len w₀ w' j'
  scaling_held c r m free fit l er ew ej =
      moving_by m free fit l _ form.n r (plain form.n c * get_or w (src + j) 0)
      (er ∙ sym (mod-eq_of_lt (plain_below form.n odd _)) ∙ (plain_mul form.n odd c _).same) refl ew refl ej
    where
      odd : form.n % 2 ≡ 1
      odd = f.fits.odd

  pub before_held : {l c e y : ℕ} → Combining form.n l c e src dst len w₀ w j y → Below form.n src len w₀ → y < form.n
  before_held p b = before_below p b (omega (arith, f.fits.least))

pub ruleset holding = (rules, scaling_held)

pub ruleset residues = (before_held, source_below, target_below)
