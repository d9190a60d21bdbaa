-- Words that are residues of a modulus found with its reciprocal.
--
--   modulo    what is reduced modulo the modulus found is reduced modulo n
--   within, below    a residue is at most its modulus, and less
--   never     a residue does not reach n: the tests that a loop makes of its residues fail
use Rattle.std.proofs.Common.{◌≡◌, ℕ, ◌%◌, ◌<◌, ◌≤◌, ap, ◌∙◌, mod-lt, arith}

pub modulo : {a n v : ℕ} (x : ℕ) → a ≡ n → v ≡ x % a → v ≡ x % n
modulo x e h = h ∙ ap (λ (k : ℕ). x % k) e

pub within : {a v : ℕ} (x : ℕ) → 1 ≤ a → v ≡ x % a → v ≤ a
within {a} {v} x l h = omega (arith, h, mod-lt x l)

pub below : {a v : ℕ} (x : ℕ) → 1 ≤ a → v ≡ x % a → v < a
below {a} {v} x l h = omega (arith, h, mod-lt x l)

pub never : {a n v : ℕ} (x : ℕ) → 1 ≤ n → a ≡ n → v ≡ x % a → n ≤ v → ⊥
never {a} {n} {v} x l e h t = omega (arith, modulo x e h, mod-lt x l)
