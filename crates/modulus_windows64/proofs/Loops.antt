-- What the word loops make, of words that stand for themselves.
--
--   wrote, wrote_one, scaled, entered    from what the loops promise
--   scaling                              a round of set_scaled
--   loops                                the rules
use mathlib.Core.Path.{◌≡◌, refl}
use mathlib.Core.List.{List}
use Prim.Native.Nat.{ℕ, ◌+◌, ◌-◌, ◌*◌, ◌%◌, ◌≤◌, ◌<◌}
use lib.ListN.{length, get_or, set}
use borrow.Author.Rules.{rules}
use Rattle.windows.specs.Window.{Clear, Written, Moved, mulBy, Loaded}
use Rattle.windows.proofs.WindowRounds.{Moving, moving_by}
use Rattle.window_combining.specs.Combined.{combination}
use Rattle.modulus.specs.Values.{value, values}
use Rattle.modulus_windows.specs.LoopPromises.{Wrote, Scaled, Entered}
use Rattle.modulus_windows.proofs.Adding.{clear_of}
use Rattle.modulus_windows.proofs.Forms as forms
use Rattle.euclid_steps.specs.Plain.{plainly}
use Rattle.multipliers64.specs.Multipliers.{IsMultiplier}
use Rattle.windows64.proofs.Multiples.{times_multiplier}

linear : {n : ℕ} → 1 ≤ n → forms.Linear (plainly n)
linear pos = forms.plain_linear _ pos refl

module _ (n l b src dst : ℕ) {len : ℕ} {w w' : List ℕ} (pos : 1 ≤ n) where
  pub wrote : (c : ℕ) → c < n → b < n → Written (combination n l (n - c) (n - b) src dst w) dst len w w'
      → Wrote (plainly n) (combination n (value (plainly n) l) (n - value (plainly n) c) (n - value (plainly n) b) src dst
      (values (plainly n) w)) dst len w w'
  unfolding value
  wrote c lc lb wr = forms.wrote (plainly n) (linear pos) l c b src lc lb wr

  pub wrote_one : b < n → Written (combination n l 0 (n - b) src dst w) dst len w w'
      → Wrote (plainly n) (combination n (value (plainly n) l) 0 (n - value (plainly n) b) src dst (values (plainly n) w)) dst len w w'
  unfolding value
  wrote_one lb wr = forms.wrote_one (plainly n) (linear pos) l b src lb wr

pub scaled : {n c src dst len : ℕ} {w w' : List ℕ} → 1 ≤ n → Moved (mulBy n c) src dst len w w' → Scaled (plainly n) c src dst len w w'
unfolding value
scaled {n} {c} pos mv = forms.scaled (plainly n) (linear pos) c mv

pub entered : {n a : ℕ} {f w w' : List ℕ} → 1 ≤ n → Loaded n a f w w' → Entered (plainly n) a f w w'
unfolding value
entered {n} {a} {f} pos ld = forms.entered_own (plainly n) (linear pos) f refl ld

-- the product by the multiplier is one by the word that it stands for
pub scaling : {n c src dst len j j' : ℕ} {w₀ w w' : List ℕ} (c' f r : ℕ) → Moving (mulBy n c) src dst len w₀ w j → Clear src dst len
    → dst + len ≤ length w₀ → j < len → IsMultiplier n c c' f → r ≡ (c' * get_or w (src + j) 0) % n → w' ≡ set w (dst + j) r → j' ≡ j + 1
    → Moving (mulBy n c) src dst len w₀ w' j'
scaling c' f r m free fit l i er ew ej = moving_by m free fit l _ _ r _ er refl ew (times_multiplier _ i refl) ej

pub ruleset loops = (rules, wrote, wrote_one, scaled, entered, clear_of, scaling)
