-- What the service of one word of a product answers (S35), and what it leaves in every lent word, over any width W. f and g are the
-- polynomials sent, of degrees d and e.
--
--   word_replaced         the result words after a call for word k
--   ProductWordAnswer     all that is promised of a call
use Rattle.std.specs.Prelude.{◌≡◌, cond, List, ℕ, zero, suc, ltb, length, set}
use Rattle.definitions.specs.Polynomials.{coef, product}
use Rattle.refusals.specs.Refusals.{Width}
use Rattle.product_service.specs.ProductService.{product_status}

-- the buffer w after a call of status s for word k of x: "every other word stays as found", and a k above the words of x "writes nothing"
abbrev pub word_replaced : ℕ → ℕ → List ℕ → List ℕ → List ℕ
word_replaced zero k x w = cond (ltb k (length x)) (set w k (coef x k)) w
word_replaced (suc s) k x w = w

-- S35: "takes the product's arguments and a k, refuses as the product does, and writes word k of the product alone"; the product's words
-- are those from 0 to d + e
pub record ProductWordAnswer (W : Width) (n : ℕ) (f g : List ℕ) (k : ℕ) (out out' : List ℕ) (value status : ℕ) : Type 0 where
  pub status_is : status ≡ product_status W n f g (length out)
  pub value_is : value ≡ 0
  pub out_is : out' ≡ word_replaced status k (product n f g) out
