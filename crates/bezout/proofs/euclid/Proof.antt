use Rattle.bezout.proofs.Signs.{Signed, signs}
use Rattle.bezout.proofs.euclid.Statement.{statement}
use Rattle.bezout.proofs.euclid.Tie as tie

pub euclid_spec : {M : Type 1} → statement M
euclid_spec = tie.close (tie.spec (λ n a x₀ y₀ s₀ t₀ k₀ x y s t k. Signed n a k s t x y) (λ n a x₀ y₀ s₀ t₀ k₀ x y s t k. y)
    (λ c. search signs) (λ c. search signs) (λ c. search signs) (λ c. search signs) (λ c. search signs) (λ c. search signs)
    (λ c. search signs) (λ c. search signs) (λ c. search signs) (λ c. search signs) (λ c. search signs))
