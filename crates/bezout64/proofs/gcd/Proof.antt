use Rattle.law_numbers.specs.Divisors.{Same}
use Rattle.bezout.proofs.Signs.{divisors}
use Rattle.bezout64.proofs.gcd.Statement.{statement}
use Rattle.bezout64.proofs.gcd.Tie as tie

pub gcd_spec : {M : Type 1} → statement M
gcd_spec = tie.close (tie.spec (λ a b x₀ y₀ x y. Same a b x y) (λ a b x₀ y₀ x y. y) (λ c. search divisors) (λ c. search divisors)
    (λ c. search divisors) (λ c. search divisors) (λ c. search divisors))
