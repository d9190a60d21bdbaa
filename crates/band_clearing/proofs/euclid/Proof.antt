use borrow.Author.Rules.{rules}
use Prim.Native.Nat.{◌*◌}
use lib.ListN.{get_or}
use Rattle.band_clearing.proofs.TwoRows.{Alternating, alternations}
use Rattle.band_clearing.proofs.euclid.Statement.{statement}
use Rattle.band_clearing.proofs.euclid.Tie as tie

pub euclid_spec : {M : Type 1} → statement M
euclid_spec = tie.close (tie.spec (λ w₀ n i k s w. Alternating n s.b s.d s.e i k w₀ w) (λ w₀ n i k s w. get_or w (145 * k) 0)
    (λ c. search alternations) (λ c. search rules) (λ c. search rules) (λ c. search rules)
    (λ c κs. (search alternations, (search rules, search rules))) (λ c. search rules) (λ c. search rules) (λ c. search rules)
    (λ c. search rules) (λ c. search alternations) (λ c κs. (search alternations, (search alternations, search rules)))
    (λ c. search alternations) (λ c. search alternations) (λ c. search rules) (λ c. search alternations))
