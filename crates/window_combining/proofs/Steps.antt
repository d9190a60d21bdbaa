-- The rules of the word loop of a division without inverses, by any reduction.
--
--   combined                                          the word that a round writes
--   Combining                                         the words written so far, and the word before
--   combining_next                                    its round
--   source_below, before_below, target_below          the words of a round are residues
--   combining_never                                   so that none of those read reaches n
--   combinations                                      the rules
use mathlib.Core.Path.{◌≡◌, refl, sym, ap, ap₂, subst, ◌∙◌}
use mathlib.Core.List.{List}
use Prim.Native.Nat.{ℕ, zero, suc, ◌+◌, ◌*◌, ◌%◌, ◌≤◌, ◌<◌}
use native.Mathlib.Omega.{arith}
use borrow.Author.Rules.{rules}
use lib.ListN.{length, get_or, set}
use Rattle.windows.specs.Window.{Apart, Below, Written, behind}
use Rattle.windows.proofs.Pairs.{next_behind}
use Rattle.windows.proofs.Leaf.{written_step, written_source}
use Rattle.window_combining.specs.Combined.{combination}

pub combined : (n l c m src dst len i y v : ℕ) (w₀ w : List ℕ) → Written (combination n l c m src dst w₀) dst i w₀ w
    → Apart src len dst len → i < len → y ≡ behind (λ (k : ℕ). get_or w₀ (src + k) 0) i
    → v ≡ (l * get_or w (dst + i) 0 + c * y + m * get_or w (src + i) 0) % n → v ≡ combination n l c m src dst w₀ i
unfolding combination
combined n l c m src dst len i y v w₀ w s free h ey e =
    e
    ∙ ap₂ (λ (x z : ℕ). (l * x + c * y + m * z) % n) (s.high (dst + i) (omega arith)) (written_source s src len free (omega arith) i h)
    ∙ ap (λ (u : ℕ). (l * get_or w₀ (dst + i) 0 + c * u + m * get_or w₀ (src + i) 0) % n) ey

pub record Combining (n l c m src dst len : ℕ) (w₀ w : List ℕ) (j y : ℕ) : Type 0 where
  pub most : j ≤ len
  pub done : Written (combination n l c m src dst w₀) dst j w₀ w
  pub before : y ≡ behind (λ (k : ℕ). get_or w₀ (src + k) 0) j

module _ {n l c m src dst len j y : ℕ} {w₀ w : List ℕ} (p : Combining n l c m src dst len w₀ w j y) where
  pub combining_next : {j' y' : ℕ} {w' : List ℕ} → Apart src len dst len → dst + len ≤ length w₀ → j < len → (r : ℕ)
      → r ≡ (l * get_or w (dst + j) 0 + c * y + m * get_or w (src + j) 0) % n → w' ≡ set w (dst + j) r → y' ≡ get_or w (src + j) 0 → j' ≡ j + 1
      → Combining n l c m src dst len w₀ w' j' y'
  combining_next free fit less r er ew ey ej =
      rw (ew, ej, ey) (record {
        most = omega arith;
        done = written_step p.done (omega arith) (combined n l c m src dst len j y r w₀ w p.done free less p.before er);
        before = written_source p.done src len free p.most j less ∙ sym (next_behind (λ (k : ℕ). get_or w₀ (src + k) 0) j);
      })

  pub source_below : {z : ℕ} → Apart src len dst len → Below n src len w₀ → j < len → z ≡ get_or w (src + j) 0 → z < n
  source_below free b less ez =
      subst (λ (x : ℕ). x < n) (sym (ez ∙ written_source p.done src len free p.most j less)) (b.at j less)

  pub target_below : {z : ℕ} → Below n dst len w₀ → j < len → z ≡ get_or w (dst + j) 0 → z < n
  target_below b less ez = subst (λ (x : ℕ). x < n) (sym (ez ∙ p.done.high (dst + j) (omega arith))) (b.at j less)

  pub before_below : Below n src len w₀ → 1 ≤ n → y < n
  before_below b pos = subst (λ (x : ℕ). x < n) (sym p.before) (go j p.most)
    where
      go : (i : ℕ) → i ≤ len → behind (λ (k : ℕ). get_or w₀ (src + k) 0) i < n
      go zero h = pos
      go (suc i) h = b.at i (omega arith)

  pub combining_never : Apart src len dst len → Below n src len w₀ → j < len → n ≤ get_or w (src + j) 0
      → Written (combination n l c m src dst w₀) dst len w₀ w
  combining_never free b less h = absurd (omega (arith, source_below free b less refl))

pub ruleset combinations = (rules, combining_next, combining_never)
