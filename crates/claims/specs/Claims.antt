-- What is said of a claim from elsewhere (S47). f and g are polynomials modulo n, D is the number claimed, u and v are the multipliers.
--
--   Judged k n f g D u v             0: all three hold; k from 1 to 3: the k-th fails and those before it hold
--   Tells b P                        the answer b says whether P holds
--   ClaimLengthsAsked, ClaimAsked    what the tests ask
use Rattle.std.specs.Prelude.{◌≡◌, Bool, true, false, List, ℕ, zero, suc, ◌≤◌, length}
use Rattle.std.specs.Int.{◌∣◌}
use Rattle.definitions.specs.Resultants.{Combination, Reduced}

-- S47: "accepts exactly when D divides n, the combination gives D modulo n, and D is the reduced resultant as defined … Otherwise it names
-- the first of these three that fails."
abbrev pub Judged : ℕ → ℕ → List ℕ → List ℕ → ℕ → List ℕ → List ℕ → Type 0
Judged zero n f g D u v = (D ∣ n) × (Combination n f g u v D × Reduced n f g D)
Judged (suc zero) n f g D u v = D ∣ n → ⊥
Judged (suc (suc zero)) n f g D u v = (D ∣ n) × (Combination n f g u v D → ⊥)
Judged (suc (suc (suc zero))) n f g D u v = (D ∣ n) × (Combination n f g u v D × (Reduced n f g D → ⊥))
Judged (suc (suc (suc (suc k)))) n f g D u v = ⊥

pub record Tells (b : Bool) (P : Type 0) : Type 0 where
  pub holds : b ≡ true → P
  pub fails : b ≡ false → P → ⊥

-- f and g have 1 to 49 words, and the multipliers at most 4096
pub record ClaimLengthsAsked (f g u v : List ℕ) : Type 0 where
  pub least_f : 1 ≤ length f
  pub most_f : length f ≤ 49
  pub least_g : 1 ≤ length g
  pub most_g : length g ≤ 49
  pub most_u : length u ≤ 4096
  pub most_v : length v ≤ 4096

-- the words may be any
pub record ClaimAsked (n : ℕ) (f g u v : List ℕ) : Type 0 where
  pub modulus : 2 ≤ n
  pub lengths : ClaimLengthsAsked f g u v
