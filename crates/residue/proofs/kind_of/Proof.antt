use Rattle.law_numbers.specs.Kinds.{Parts}
use Rattle.residue.proofs.Rules.{kinds}
use Rattle.residue.proofs.kind_of.Statement.{statement}
use Rattle.residue.proofs.kind_of.Tie as tie

pub kind_of_spec : {M : Type 1} → statement M
kind_of_spec = tie.close (tie.spec (λ n a m₀ h₀ m h. Parts n a m h) (λ n a m₀ h₀ m h. m) (λ c κs. search kinds) (λ c. search kinds)
    (λ c κs. search kinds) (λ c. search kinds) (λ c. search kinds) (λ c κs. search kinds) (λ c. search kinds) (λ c. search kinds)
    (λ c κs. search kinds) (λ c. search kinds) (λ c. search kinds) (λ c. search kinds) (λ c. search kinds) (λ c. search kinds))
