use borrow.Author.Rules.{rules}
use Rattle.frame_reader.proofs.Stepping.{endings}
use Rattle.frame_reader.proofs.finish.Statement.{statement}
use Rattle.frame_reader.proofs.finish.Tie as tie

pub finish_spec : {M : Type 1} → statement M
finish_spec = tie.close (tie.spec (λ c κs. search endings) (λ c. search endings) (λ c κs. search endings) (λ c. search endings)
    (λ c. search endings) (λ c. search endings) (λ c κs. search endings) (λ c. search endings) (λ c. (search rules, search endings)))
