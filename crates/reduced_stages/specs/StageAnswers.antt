-- What the two stages of the reduced run ask and answer (reduced_units/specs/States has the layout of their window).
--
--   DivisionAsked n ν p a b i l w       what the division stage asks of the second polynomial besides
--   ContentFits n c r, times_content c r    an answer times c is no more than n; that answer
--   StageAnswer n ν p a c w w' r        r is the reduced resultant of the two polynomials, with a multiplier; or two coprime divisors of ν
use Rattle.std.specs.Prelude.{◌≡◌, Result, Ok, Err, List, ℕ, ◌+◌, ◌*◌, ◌%◌, ◌<◌, ◌≤◌, get_or}
use Rattle.reduced_units.specs.declared.Places.{Places}
use Rattle.reduced_units.specs.States.{StageAt, Solved, Splitter}
use Rattle.residue.specs.declared.Split.{Split}

-- A of degree a and B of degree b, from 1 to a - 1, whose leading word has the inverse i
pub record DivisionAsked (n ν : ℕ) (p : Places) (a b i l : ℕ) (w : List ℕ) : Type 0 where
  pub stage : StageAt n ν p a (b + 1) l w
  pub degree : 1 ≤ b
  pub shorter : b < a
  pub inverse : (i * get_or w (p.pb + b) 0) % ν ≡ 1 % ν

-- the answer D times c; two divisors are left
abbrev pub times_content : ℕ → Result ℕ (Split ℕ) → Result ℕ (Split ℕ)
times_content c (Ok D) = Ok (c * D)
times_content c (Err s) = Err s

pub record ContentFits (n c : ℕ) (r : Result ℕ (Split ℕ)) : Type 0 where
  pub most : (D : ℕ) → r ≡ Ok D → c * D ≤ n

abbrev pub StageAnswer : ℕ → ℕ → Places → ℕ → ℕ → List ℕ → List ℕ → Result ℕ (Split ℕ) → Type 0
StageAnswer n ν p a c w w' (Ok D) = Solved n ν p.t p.pa a p.pb c p.al p.be D w w'
StageAnswer n ν p a c w w' (Err s) = Splitter ν s.p s.q
