use Prim.Native.Nat.{◌-◌}
use lib.ListN.{length}
use Rattle.frame_reader.proofs.Stepping.{Underway, steps}
use Rattle.frame_reader.proofs.step.Statement.{statement}
use Rattle.frame_reader.proofs.step.Tie as tie

pub step_spec : {M : Type 1} → statement M
step_spec = tie.close (tie.spec
    (λ pending line₀ piece out₀ work₀ h₀ i₀ w₀ line out work h i w. Underway pending piece line₀ out₀ i h w line out work)
    (λ pending line₀ piece out₀ work₀ h₀ i₀ w₀ line out work h i w. length piece - i) (λ c κs. search steps) (λ c κs. search steps)
    (λ c. search steps) (λ c κs. search steps) (λ c. search steps) (λ c. search steps) (λ c. search steps) (λ c κs. search steps)
    (λ c. search steps) (λ c. search steps) (λ c. search steps) (λ c. search steps) (λ c. search steps) (λ c. search steps)
    (λ c. search steps) (λ c. search steps) (λ c. search steps) (λ c κs. (search steps, (search steps, search steps))) (λ c. search steps)
    (λ c. search steps) (λ c. search steps) (λ c. search steps) (λ c. search steps) (λ c. search steps) (λ c. search steps))
