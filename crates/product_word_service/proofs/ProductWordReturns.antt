-- What `product_word` returns where the product is not refused.
--
--   word_above     k above d + e
--   word_done      word k is made
use Rattle.std.specs.Prelude.{Result, Ok}
use mathlib.Core.Path.{◌≡◌, refl, sym, ap, subst, ◌∙◌}
use mathlib.Core.Bool.{Bool, cond}
use mathlib.Core.List.{List}
use Prim.Native.Nat.{ℕ, suc, ◌+◌, ◌-◌, ◌%◌, ◌≤◌, ◌<◌}
use borrow.Author.Tests.{lt-ltb, le-ltb}
use lib.ListN.{length, set}
use Rattle.definitions.specs.Polynomials.{coef, deg, convolve, product}
use Rattle.law_polynomials.specs.Words.{coef_tabulate}
use Rattle.refusals.specs.declared.Refusal.{Refusal}
use Rattle.refusals.specs.Refusal.{status_of}
use Rattle.refusals.specs.Refusals.{narrow}
use Rattle.product_service.specs.ProductService.{product_status}
use Rattle.product_service.proofs.ProductReturns.{product_length, product_words}
use Rattle.product_word_service.specs.ProductWord.{ProductWordAnswer}

module _ (n k : ℕ) (f g out : List ℕ) {A : Type 0} {r : Result A Refusal} (is : status_of r ≡ product_status narrow n f g (length out)) {x : A}
    (ok : r ≡ Ok x) where
  answers : 0 ≡ product_status narrow n f g (length out)
  answers = ap status_of (sym ok) ∙ is

  words_are : length f - 1 + (length g - 1) + 1 ≡ length (product n f g)
  words_are = product_length f g ∙ sym (product_words n f g)

  pub word_above : length f - 1 + (length g - 1) + 1 ≤ k → ProductWordAnswer narrow n f g k out out 0 0
  word_above h = record {
    status_is = answers;
    value_is = refl;
    out_is = sym (ap (λ (t : Bool). cond t (set out k (coef (product n f g) k)) out)
        (le-ltb k (length (product n f g)) (subst (λ (x : ℕ). x ≤ k) words_are h)));
  }

  pub word_done : k < length f - 1 + (length g - 1) + 1 → {v : ℕ} → v ≡ convolve (coef f) (coef g) k % n
      → ProductWordAnswer narrow n f g k out (set out k v) 0 0
  word_done h {v} is_v =
      let word : v ≡ coef (product n f g) k = is_v
      ∙ sym (coef_tabulate (suc (deg f + deg g)) (λ (i : ℕ). convolve (coef f) (coef g) i % n) k
      (subst (λ (x : ℕ). k < x) (product_length f g) h)) in
      record {
        status_is = answers;
        value_is = refl;
        out_is = ap (set out k) word ∙ sym (ap (λ (t : Bool). cond t (set out k (coef (product n f g) k)) out)
            (lt-ltb k (length (product n f g)) (subst (λ (x : ℕ). k < x) words_are h)));
      }
