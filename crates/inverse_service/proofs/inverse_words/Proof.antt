use Rattle.inverse_service.proofs.Inverses.{inverses}
use Rattle.inverse_service.proofs.inverse_words.Statement.{statement}
use Rattle.inverse_service.proofs.inverse_words.Tie as tie

pub inverse_words_spec : {M : Type 1} → statement M
inverse_words_spec = tie.close (tie.spec (λ c. search inverses) (λ c κs. search inverses) (λ c κs. search inverses) (λ c. search inverses)
    (λ c κs. search inverses) (λ c κs. search inverses) (λ c. search inverses) (λ c. search inverses) (λ c. search inverses))
