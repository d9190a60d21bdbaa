use Rattle.law_numbers.specs.Kinds.{Parts}
use Rattle.residue.proofs.Rules.{kinds}
use Rattle.residue64.proofs.kind_of.Statement.{statement}
use Rattle.residue64.proofs.kind_of.Tie as tie

pub kind_of_spec : {M : Type 1} → statement M
kind_of_spec = tie.close (tie.spec (λ m a q₀ h₀ q h. Parts m.n a q h) (λ m a q₀ h₀ q h. q) (λ c κs. search kinds) (λ c. search kinds)
    (λ c κs. search kinds) (λ c. search kinds) (λ c. search kinds) (λ c κs. search kinds) (λ c. search kinds) (λ c. search kinds)
    (λ c κs. search kinds) (λ c. search kinds) (λ c. search kinds) (λ c. search kinds) (λ c. search kinds) (λ c. search kinds))
