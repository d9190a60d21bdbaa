-- The low bits of an inverse modulo 2^64, as a cofactor.
use mathlib.Core.Path.{◌≡◌}
use Prim.Native.Nat.{ℕ, ◌-◌, ◌^◌, ◌<◌, ◌≤◌}
use borrow.Author.Rules.{rules}
use lib.Bits.{bit_and}
use Rattle.law_numbers.specs.Divisors.{GcdCofactor}
use Rattle.reduction.proofs.Masks.{power_in}
use Rattle.bezout.proofs.Inverses.{inverse_cofactor}
use Rattle.montgomery64.specs.Forms.{Inverse, open_inverse}

pub power_cofactor : {n a k s : ℕ} → bit_and n (n - 1) ≡ 0 → Inverse a k → (k ≡ 0 → ⊥) → 1 ≤ n → n < 2 ^ 64 → s ≡ bit_and k (n - 1)
    → GcdCofactor n a 1 s
power_cofactor {n} {a} {k} e i some pos small es = inverse_cofactor k (power_in 64 n pos small e) (open_inverse i some) es

pub ruleset inverses = (rules, power_cofactor)
