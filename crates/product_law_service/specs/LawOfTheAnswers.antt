-- Point 3 of the engine's own answers, over any width: the law of products, from nothing but the records that the product, the resultant
-- and the reduced resultant promise.
--
--   AnsweredProduct, AnsweredResultant, AnsweredReduced    a call, on whatever buffers, that answered
--   answered_modulus, reduced_modulus                      such a call had a modulus of 2 or more
--   law_of_the_answers                                     POINT 3
use Rattle.std.specs.Prelude.{◌≡◌, refl, List, ℕ, ◌+◌, ◌%◌, ◌≤◌, length, take, drop}
use Rattle.std.proofs.Common.{sym, ◌∙◌, ap, arith, take_at}
use Rattle.definitions.specs.Polynomials.{product}
use Rattle.law_polynomials.specs.PointThree.{LawOfProducts, point_three}
use Rattle.refusals.specs.Refusals.{Width}
use Rattle.refusals.specs.Conditions.{status_zero}
use Rattle.product_service.specs.ProductService.{ProductAnswer}
use Rattle.resultant_service.specs.ResultantService.{ResultantAnswer, resultant_refusals, resultant_conditions, resultant_listed}
use Rattle.reduced_service.specs.ReducedService.{ReducedAnswer, reduced_refusals, reduced_conditions, reduced_listed}

-- p is what a call of the product has left in the first d + e + 1 words of its buffer
pub record AnsweredProduct (W : Width) (n : ℕ) (f g p : List ℕ) : Type 0 where
  pub out : List ℕ
  pub out' : List ℕ
  pub value : ℕ
  pub call : ProductAnswer W n f g out out' value 0
  pub words : p ≡ take (length (product n f g)) out'

pub record AnsweredResultant (W : Width) (n : ℕ) (f g : List ℕ) (r : ℕ) : Type 0 where
  pub work : List ℕ
  pub work' : List ℕ
  pub call : ResultantAnswer W n f g work work' r 0

pub record AnsweredReduced (W : Width) (n : ℕ) (f g : List ℕ) (D : ℕ) : Type 0 where
  pub u : List ℕ
  pub u' : List ℕ
  pub v : List ℕ
  pub v' : List ℕ
  pub work : List ℕ
  pub work' : List ℕ
  pub call : ReducedAnswer W n f g u u' v v' work work' D 0

-- a call that answered had a modulus of 2 or more
pub answered_modulus : (W : Width) (n : ℕ) (f g : List ℕ) (r : ℕ) → AnsweredResultant W n f g r → 1 ≤ n
answered_modulus W n f g r a =
    let l = length a.work in
    let z = status_zero (resultant_refusals W n f g l) (resultant_conditions W n f g l) (resultant_listed W n f g l) in
    let p = z.0 (sym a.call.status_is) in
    omega (arith, p.0.least)

pub reduced_modulus : (W : Width) (n : ℕ) (f g : List ℕ) (D : ℕ) → AnsweredReduced W n f g D → 1 ≤ n
reduced_modulus W n f g D a =
    let i = length a.u in
    let j = length a.v in
    let l = length a.work in
    let z = status_zero (reduced_refusals W n f g i j l) (reduced_conditions W n f g i j l) (reduced_listed W n f g i j l) in
    let p = z.0 (sym a.call.status_is) in
    omega (arith, p.0.least)

-- POINT 3: whatever the product, the resultant and the reduced resultant answer for f, g and h modulo one n obeys the law of products
pub law_of_the_answers : (W : Width) (n : ℕ) (f g h p : List ℕ) (r rf rg D Df Dg : ℕ) → AnsweredProduct W n f g p
    → AnsweredResultant W n p h r → AnsweredResultant W n f h rf → AnsweredResultant W n g h rg
    → AnsweredReduced W n p h D → AnsweredReduced W n f h Df → AnsweredReduced W n g h Dg → LawOfProducts n r rf rg D Df Dg
law_of_the_answers W n f g h p r rf rg D Df Dg a b c d x y z =
    point_three n (answered_modulus W n p h r b) f g h p r rf rg D Df Dg (record {
      product_of =
          a.words
          ∙ ap (take (length (product n f g))) a.call.out_is
          ∙ take_at (product n f g) (drop (length (product n f g)) a.out) (length (product n f g)) refl;
      resultant_of_product = b.call.value_is;
      resultant_of_first = c.call.value_is;
      resultant_of_second = d.call.value_is;
      reduced_of_product = x.call.result.reduced;
      reduced_of_first = y.call.result.reduced;
      reduced_of_second = z.call.result.reduced;
    })
