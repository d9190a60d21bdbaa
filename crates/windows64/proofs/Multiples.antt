-- The leaves that multiply by a multiplier with its fraction, or held, which only this width has.
--
--   times_multiplier, added_multiplier    a product by the multiplier is one by the word that it stands for
--   pairing_two, pairing_held             a round of add_pair_by, by fractions and by Montgomery's reduction
--   formed_as, squared_as                 Montgomery's form of n from its reciprocal
--   multiples, holds                      the rules
use mathlib.Core.Path.{◌≡◌, refl, subst}
use mathlib.Core.List.{List}
use Prim.Native.Nat.{ℕ, ◌+◌, ◌*◌, ◌%◌, ◌^◌, ◌<◌}
use borrow.Author.Rules.{rules}
use lib.ListN.{get_or, set}
use Rattle.windows.specs.Window.{PairAsked}
use Rattle.windows.proofs.WindowRounds.{Pairing, pairing_next, leaves}
use Rattle.montgomery64.specs.Forms.{Formed, Squared, Held, Reduced, two_words}
use Rattle.reduction64.specs.Moduli.{Ready, formed, squared}
use Rattle.reduction64.specs.declared.Reciprocal.{Reciprocal}
use Rattle.multipliers64.specs.Multipliers.{IsMultiplier, times_as, added_as, pair_as}

pub times_multiplier : {k n c c' w : ℕ} (y : ℕ) → IsMultiplier k c c' w → k ≡ n → (c' * y) % n ≡ (c * y) % n
times_multiplier {k} {n} {c} {c'} y i e = rw (← e) (times_as refl c y i.residue refl)

pub added_multiplier : {k n c c' w : ℕ} (x y : ℕ) → IsMultiplier k c c' w → k ≡ n → (x + c' * y) % n ≡ (x + c * y) % n
added_multiplier {k} {n} {c} {c'} x y i e = rw (← e) (added_as refl x c y i.residue refl)

pub pairing_two : {n c m src dst len j y j' y' : ℕ} {w₀ w w' : List ℕ} (k c' m' f g x r : ℕ) → Pairing n c m src dst len w₀ w j y
    → PairAsked n m src dst len w₀ → j < len → k ≡ n → IsMultiplier k c c' f → IsMultiplier k m m' g → x ≡ (get_or w (dst + j) 0 + c' * y) % k
    → r ≡ (x + m' * get_or w (src + j) 0) % k → w' ≡ set w (dst + j) r → y' ≡ get_or w (src + j) 0 → j' ≡ j + 1
    → Pairing n c m src dst len w₀ w' j' y'
pairing_two k c' m' f g x r p asked l ek ic im ex er ew ey ej =
    pairing_next p asked l r (pair_as ek _ _ _ _ _ ic.residue im.residue ex er) ew ey ej

pub pairing_held : {n k c c' m m' src dst len j y j' y' : ℕ} {w₀ w w' : List ℕ} (r : ℕ) → Pairing n c m src dst len w₀ w j y
    → PairAsked n m src dst len w₀ → j < len → Formed n k → Held n c c' → Held n m m'
    → Reduced n (get_or w (dst + j) 0 * 2 ^ 64 + c' * y + m' * get_or w (src + j) 0) r → w' ≡ set w (dst + j) r → y' ≡ get_or w (src + j) 0
    → j' ≡ j + 1 → Pairing n c m src dst len w₀ w' j' y'
pairing_held r p asked l f hc hm d ew ey ej = pairing_next p asked l r (two_words _ _ _ f hc hm d) ew ey ej

pub formed_as : {m : Reciprocal} {n : ℕ} → Ready m → m.n ≡ n → (m.k ≡ 0 → ⊥) → Formed n m.k
formed_as {m} r e h = subst (λ (x : ℕ). Formed x m.k) e (formed r h)

pub squared_as : {m : Reciprocal} {n : ℕ} → Ready m → m.n ≡ n → (m.k ≡ 0 → ⊥) → Squared n m.s
squared_as {m} r e h = subst (λ (x : ℕ). Squared x m.s) e (squared r h)

pub ruleset multiples = (leaves, times_multiplier, added_multiplier, pairing_two)

pub ruleset holds = (rules, pairing_held, formed_as, squared_as)
