-- The rules of the word loop of a pseudo-division: what a round keeps, by fractions and by Montgomery's reduction.
--
--   combining_plain, combining_held    a round of each
--   held_words                         the words of a round are residues
--   residues, combinations             the rules
use mathlib.Core.Path.{◌≡◌, ◌∙◌}
use mathlib.Core.List.{List}
use Prim.Native.Nat.{ℕ, ◌+◌, ◌*◌, ◌%◌, ◌<◌, ◌≤◌}
use native.Mathlib.Omega.{arith}
use borrow.Author.Rules.{rules}
use lib.ListN.{length, get_or, set}
use Rattle.windows.specs.Window.{Apart, Below}
use Rattle.window_combining.proofs.Steps.{Combining, combining_next, source_below, before_below}
use Rattle.montgomery64.specs.Forms.{Formed, Held, Reduced, Factors, three_words}
use Rattle.multipliers64.specs.Multipliers.{IsMultiplier, three_as}
use Rattle.reduction64.specs.Moduli.{formed, squared}

module _ {n l c m src dst len j y : ℕ} {w₀ w : List ℕ} (p : Combining n l c m src dst len w₀ w j y) (free : Apart src len dst len)
    (less : j < len) where
  module _ {j' y' : ℕ} {w' : List ℕ} (fit : dst + len ≤ length w₀) (r : ℕ) (ew : w' ≡ set w (dst + j) r) (ey : y' ≡ get_or w (src + j) 0)
      (ej : j' ≡ j + 1) where
    pub combining_plain : {l' fl c' fc m' fm : ℕ} → IsMultiplier n l l' fl → IsMultiplier n c c' fc → IsMultiplier n m m' fm
        → r ≡ (l' * get_or w (dst + j) 0 + c' * y + m' * get_or w (src + j) 0) % n → Combining n l c m src dst len w₀ w' j' y'
    combining_plain il ic im er = combining_next p free fit less r (er ∙ three_as n l c m _ _ _ _ _ _ il.residue ic.residue im.residue) ew ey ej

    pub combining_held : {k l' c' m' : ℕ} → Formed n k → Held n l l' → Held n c c' → Held n m m'
        → Reduced n (l' * get_or w (dst + j) 0 + c' * y + m' * get_or w (src + j) 0) r → Combining n l c m src dst len w₀ w' j' y'
    combining_held f hl hc hm d = combining_next p free fit less r (three_words _ _ _ f hl hc hm d) ew ey ej

  -- the words of a round are residues
  pub held_words : {c' m' z : ℕ} → Below n src len w₀ → 1 ≤ n → c' < n → m' < n → z ≡ get_or w (src + j) 0 → Factors n c' y m' z
  held_words below pos lc lm ez = record {
    first = omega arith;
    second = omega arith;
    word = before_below p below pos;
    next = source_below p free below less ez;
  }

pub ruleset residues = (held_words)

pub ruleset combinations = (rules, combining_plain, combining_held, formed, squared)
