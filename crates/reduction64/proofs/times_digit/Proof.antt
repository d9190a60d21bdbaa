use Rattle.arithmetic.proofs.Squares.{powers}
use Rattle.reduction64.proofs.times_digit.Statement.{statement}
use Rattle.reduction64.proofs.times_digit.Tie as tie

pub times_digit_spec : {M : Type 1} → statement M
times_digit_spec = tie.close (tie.spec (λ c κs. search powers) (λ c. search powers) (λ c. search powers))
