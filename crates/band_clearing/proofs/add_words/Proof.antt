use Rattle.windows.proofs.WindowRounds.{masked}
use Rattle.band_clearing.proofs.add_words.Statement.{statement}
use Rattle.band_clearing.proofs.add_words.Tie as tie

pub add_words_spec : {M : Type 1} → statement M
add_words_spec = tie.close (tie.spec (λ c κs. search masked) (λ c κs. search masked) (λ c. search masked) (λ c. search masked)
    (λ c κs. search masked) (λ c κs. search masked) (λ c. search masked) (λ c. search masked))
