-- The lower half of a product of two numbers of 64 bits, out of products of their halves. `law_words/Digits` has the upper half.
--
--   low_is    what is computed is the lower half
use Rattle.std.specs.Prelude.{◌≡◌, ℕ, ◌+◌, ◌*◌, ◌/◌, ◌%◌, ◌^◌}
use Rattle.std.proofs.Common.{sym, ap, ◌∙◌, arith}
use Rattle.std.proofs.Math.Nat.{add-mod}

pub low_is : (a b : ℕ)
    → ((a % 4294967296) * (b % 4294967296)
    + ((a / 4294967296) * (b % 4294967296) % 4294967296 + (a % 4294967296) * (b / 4294967296) % 4294967296) % 4294967296 * 4294967296)
    % 2 ^ 64
    ≡ (a * b) % 2 ^ 64
low_is a b = halves (a / 4294967296) (a % 4294967296) (b / 4294967296) (b % 4294967296) a b (omega arith) (omega arith)
  where
    shifted : (t s z : ℕ) → (z + s % 4294967296 * 4294967296) % 2 ^ 64 ≡ (t * 2 ^ 64 + s * 4294967296 + z) % 2 ^ 64
    shifted t s z = omega arith

    halves : (a₁ a₀ b₁ b₀ a b : ℕ) → a ≡ a₁ * 4294967296 + a₀ → b ≡ b₁ * 4294967296 + b₀
        → (a₀ * b₀ + (a₁ * b₀ % 4294967296 + a₀ * b₁ % 4294967296) % 4294967296 * 4294967296) % 2 ^ 64 ≡ (a * b) % 2 ^ 64
    halves a₁ a₀ b₁ b₀ a b ea eb =
        let e : a₁ * b₁ * 2 ^ 64 + (a₁ * b₀ + a₀ * b₁) * 4294967296 + a₀ * b₀ ≡ a * b = rw (ea, eb) (omega arith) in
        ap (λ (x : ℕ). (a₀ * b₀ + x * 4294967296) % 2 ^ 64) (sym (add-mod (a₁ * b₀) (a₀ * b₁) 4294967296))
        ∙ shifted (a₁ * b₁) (a₁ * b₀ + a₀ * b₁) (a₀ * b₀)
        ∙ ap (λ (x : ℕ). x % 2 ^ 64) e
