-- What the function that tries the law of products answers, over any width W: f, g and h are the polynomials sent.
--
--   law_refusals                        the refusals of the seven calls in their order
--   FactorNumbers                       what the calls for f and for g promise
--   LawAnswer                           all that is promised: the seven numbers, and the law of products of them
use Rattle.std.specs.Prelude.{◌≡◌, List, ◌++◌, ℕ, zero, suc, ◌+◌, length}
use Rattle.definitions.specs.Polynomials.{deg, product, L}
use Rattle.law_polynomials.specs.PointThree.{SevenAnswers, LawOfProducts}
use Rattle.refusals.specs.Refusals.{Width, Tested, first_refusal, left, replaced}
use Rattle.product_law_refusals.specs.LawRefusals.{law_sent, law_room}
use Rattle.reduced_service.specs.ReducedService.{HoldsReduced}
use Rattle.product_law_service.specs.HowFar.{HowFarAnswer}

-- the cofactors of the product's D are the longest
abbrev pub law_refusals : Width → ℕ → List ℕ → List ℕ → List ℕ → ℕ → ℕ → ℕ → ℕ → List Tested
law_refusals W n f g h lp lu lv lw =
    law_sent W n f g h ++ law_room W lp (suc (deg f + deg g)) lu lv (L n (deg f + deg g) (deg h)) lw

-- both numbers of f with h, then both of g with h: what each of the two calls promises, on the buffers that the first left
pub record FactorNumbers (W : Width) (n : ℕ) (f g h u u' v v' work work' : List ℕ) (rf rg Df Dg : ℕ) : Type 0 where
  pub u₁ : List ℕ
  pub v₁ : List ℕ
  pub w₁ : List ℕ
  pub t₁ : ℕ
  pub t₂ : ℕ
  pub first : HowFarAnswer W n f h u u₁ v v₁ work w₁ rf Df t₁
  pub second : HowFarAnswer W n g h u₁ u' v₁ v' w₁ work' rg Dg t₂

-- the seven answers, and what then holds between them
pub record LawHolds (n : ℕ) (f g h u u' v v' : List ℕ) (r rf rg D Df Dg : ℕ) : Type 0 where
  pub numbers : SevenAnswers n f g h (product n f g) r rf rg D Df Dg
  pub law : LawOfProducts n r rf rg D Df Dg
  pub cofactors : HoldsReduced n (product n f g) h u u' v v' D

pub record NothingDone (u u' v v' : List ℕ) (r rf rg D Df Dg : ℕ) : Type 0 where
  pub resultants : (r ≡ 0) × ((rf ≡ 0) × (rg ≡ 0))
  pub reduced : (D ≡ 0) × ((Df ≡ 0) × (Dg ≡ 0))
  pub first : u' ≡ u
  pub second : v' ≡ v

abbrev pub LawLeft : ℕ → ℕ → List ℕ → List ℕ → List ℕ → List ℕ → List ℕ → List ℕ → List ℕ → ℕ → ℕ → ℕ → ℕ → ℕ → ℕ → Type 0
LawLeft zero n f g h u u' v v' r rf rg D Df Dg = LawHolds n f g h u u' v v' r rf rg D Df Dg
LawLeft (suc s) n f g h u u' v v' r rf rg D Df Dg = NothingDone u u' v v' r rf rg D Df Dg

pub record LawAnswer (W : Width) (n : ℕ) (f g h p p' u u' v v' work work' : List ℕ) (r rf rg D Df Dg status : ℕ) : Type 0 where
  pub status_is : status ≡ first_refusal (law_refusals W n f g h (length p) (length u) (length v) (length work))
  pub result : LawLeft status n f g h u u' v v' r rf rg D Df Dg
  pub product_is : p' ≡ replaced status (product n f g) p
  pub work_is : work' ≡ left status work
