-- Why two polynomials are not coprime: what the service answers, and what it leaves in every lent word, over any width W. f and g are the
-- polynomials sent, D is their reduced resultant, h the words of the common divisor.
--
--   why_refusals, why_status    the refusals in their order, and the number of the first that applies
--   NamedDivisor                the modulus that is named
--   Coprime, BothZero, CommonDivisor    the three grounds
--   GroundHolds                 the number of each, and what is then said
--   HoldsReason, WhyLeft        the answer and the buffer of the divisor
--   WhyAnswer                   all that is promised of a call
--   why_listed                  each refusal under its condition and no other
use Rattle.std.specs.Prelude.{◌≡◌, List, [], ◌∷◌, ◌++◌, ℕ, zero, suc, ◌≤◌, ◌<◌, length, take, drop, replicate}
use Rattle.std.specs.Int.{◌∣◌}
use Rattle.std.proofs.Common.{arith}
use Rattle.definitions.specs.Polynomials.{Residues, Monic}
use Rattle.definitions.specs.Resultants.{Reduced}
use Rattle.refusals.specs.Refusals.{Width, Tested, short, first_refusal, refusals_of_pair, left}
use Rattle.refusals.specs.Conditions.{Listed, conditions_of_pair, modulus_fails, length_fails, words_fail, short_fails}
use Rattle.common_factor.specs.Common.{DividesModulo, ZeroModulo}

-- 1, 2, 3, 6 and 7: "The buffer for w needs 49 words"; lw and l are the lengths of the buffers
abbrev pub why_refusals : Width → ℕ → List ℕ → List ℕ → ℕ → ℕ → List Tested
why_refusals W n f g lw l = refusals_of_pair W n f g ++ ((6, short lw 49) ∷ (7, short l W.working) ∷ [])

abbrev pub why_status : Width → ℕ → List ℕ → List ℕ → ℕ → ℕ → ℕ
why_status W n f g lw l = first_refusal (why_refusals W n f g lw l)

-- "it names a divisor m of n, m above 1"; "m must divide D"
pub record NamedDivisor (n D m : ℕ) : Type 0 where
  pub divides_n : m ∣ n
  pub above : 1 < m
  pub divides_D : m ∣ D

-- "'coprime' exactly when D is 1": nothing is named, and "the 49 are all zero"
pub record Coprime (D : ℕ) (h : List ℕ) (m degree : ℕ) : Type 0 where
  pub one : D ≡ 1
  pub zeros : h ≡ replicate 49 0
  pub no_modulus : m ≡ 0
  pub no_degree : degree ≡ 0

-- "both polynomials are zero modulo m": "the 49 are all zero"
pub record BothZero (n D : ℕ) (f g h : List ℕ) (m degree : ℕ) : Type 0 where
  pub modulus : NamedDivisor n D m
  pub first : ZeroModulo m f
  pub second : ZeroModulo m g
  pub zeros : h ≡ replicate 49 0
  pub no_degree : degree ≡ 0

-- "a monic w of degree at least 1 divides both modulo m, and w is written out in at most 49 words, zeros above it"
pub record CommonDivisor (n D : ℕ) (f g h : List ℕ) (m degree : ℕ) : Type 0 where
  pub modulus : NamedDivisor n D m
  pub some : 1 ≤ degree
  pub residues : Residues m h
  pub monic : Monic m degree h
  pub first : DividesModulo m h f
  pub second : DividesModulo m h g

-- the grounds by their numbers
abbrev pub GroundHolds : ℕ → ℕ → ℕ → List ℕ → List ℕ → List ℕ → ℕ → ℕ → Type 0
GroundHolds zero n D f g h m degree = Coprime D h m degree
GroundHolds (suc zero) n D f g h m degree = BothZero n D f g h m degree
GroundHolds (suc (suc zero)) n D f g h m degree = CommonDivisor n D f g h m degree
GroundHolds (suc (suc (suc k))) n D f g h m degree = ⊥

-- "words beyond are unchanged"; "The ground must be true as stated"
pub record HoldsReason (n : ℕ) (f g w w' : List ℕ) (kind m degree : ℕ) : Type 0 where
  pub D : ℕ
  pub reduced : Reduced n f g D
  pub same : length w' ≡ length w
  pub beyond : drop 49 w' ≡ drop 49 w
  pub holds : GroundHolds kind n D f g (take 49 w') m degree

-- "every lent buffer is left as found"
pub record NothingNamed (w w' : List ℕ) (kind m degree : ℕ) : Type 0 where
  pub no_ground : kind ≡ 0
  pub no_modulus : m ≡ 0
  pub no_degree : degree ≡ 0
  pub kept : w' ≡ w

-- an answer, or a refusal
abbrev pub WhyLeft : ℕ → ℕ → List ℕ → List ℕ → List ℕ → List ℕ → ℕ → ℕ → ℕ → Type 0
WhyLeft zero n f g w w' kind m degree = HoldsReason n f g w w' kind m degree
WhyLeft (suc s) n f g w w' kind m degree = NothingNamed w w' kind m degree

pub record WhyAnswer (W : Width) (n : ℕ) (f g w w' work work' : List ℕ) (kind m degree status : ℕ) : Type 0 where
  pub status_is : status ≡ why_status W n f g (length w) (length work)
  pub result : WhyLeft status n f g w w' kind m degree
  pub work_is : work' ≡ left status work

-- the conditions of an answer: so `status_zero` and `status_is` (refusals/Conditions) say when the status is 0, and when it is k
abbrev pub why_conditions : Width → ℕ → List ℕ → List ℕ → ℕ → ℕ → List (Type 0)
why_conditions W n f g lw l = conditions_of_pair W n f g ++ ((49 ≤ lw) ∷ (W.working ≤ l) ∷ [])

pub why_listed : (W : Width) (n : ℕ) (f g : List ℕ) (lw l : ℕ) → Listed (why_refusals W n f g lw l) (why_conditions W n f g lw l)
why_listed W n f g lw l = (
  (omega arith, modulus_fails W n),
  (
    (omega arith, length_fails f),
    (
      (omega arith, length_fails g),
      (
        (omega arith, words_fail n f),
        ((omega arith, words_fail n g), ((omega arith, short_fails lw 49), ((omega arith, short_fails l W.working), tt))),
      ),
    ),
  ),
)
