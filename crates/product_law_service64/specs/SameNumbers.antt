-- Both sets of the services answer the same numbers: from nothing but the records that they promise, at any two widths W and W'. Where
-- n fits 32 bits these may be `narrow` and `wide`.
--
--   fits_both           a modulus of 32 bits is below both bounds
--   one_resultant, one_reduced, one_product    two calls that answered, at whatever widths and on whatever buffers, have one answer
--   same_resultant, same_reduced, same_product, same_degree, same_leading    where n fits both widths and the buffers suffice, two
--                       calls refuse alike or have one answer
use Rattle.std.specs.Prelude.{◌≡◌, refl, Bool, true, not, cond, List, [], ◌∷◌, ◌++◌, ℕ, zero, suc, ◌+◌, ◌^◌, ◌≤◌, ◌<◌, ltb, length, take, drop}
use Rattle.std.proofs.Common.{sym, ap, ◌∙◌, arith, take_at, lt-ltb}
use Rattle.definitions.specs.Polynomials.{deg, product, true_degree, L}
use Rattle.definitions.specs.Resultants.{resultant}
use Rattle.law_polynomials.specs.ReachedLaws.{reduced_unique}
use Rattle.refusals.specs.Refusals.{Width, narrow, Tested, bad_modulus_of, bad_length_of, all_below_of, short, first_of, first_refusal}
use Rattle.refusals.specs.Refusals.{refusals_of_pair, answered, replaced}
use Rattle.refusals.specs.Conditions.{accepted_pair, short_fails, status_zero}
use Rattle.degree_service.specs.declared.Degree.{Degree}
use Rattle.degree_service.specs.DegreeService.{degree_number, degree_status, told, leading_part, TrueDegreeAnswer, LeadingAnswer}
use Rattle.product_service.specs.ProductService.{product_sent, ProductAnswer}
use Rattle.resultant_service.specs.ResultantService.{ResultantAnswer}
use Rattle.reduced_service.specs.ReducedService.{ReducedLeft, ReducedAnswer}
use Rattle.product_law_service.specs.LawOfTheAnswers.{AnsweredProduct, AnsweredResultant, AnsweredReduced, reduced_modulus}
use Rattle.refusals64.specs.Wide.{wide}

pub fits_both : (n : ℕ) → n < 2 ^ 32 → (n < narrow.bound) × (n < wide.bound)
fits_both n l = (l, omega arith)

-- the front of a result buffer after an answer
product_front : (n : ℕ) (f g b b' : List ℕ) → b' ≡ replaced 0 (product n f g) b → take (length (product n f g)) b' ≡ product n f g
product_front n f g b b' h =
    ap (take (length (product n f g))) h
    ∙ take_at (product n f g) (drop (length (product n f g)) b) (length (product n f g)) refl

-- ---- two calls that answered

module _ (W W' : Width) (n : ℕ) (f g : List ℕ) where
  pub one_resultant : (r r' : ℕ) → AnsweredResultant W n f g r → AnsweredResultant W' n f g r' → r ≡ r'
  one_resultant r r' p q = p.call.value_is ∙ sym q.call.value_is

  pub one_reduced : (D E : ℕ) → AnsweredReduced W n f g D → AnsweredReduced W' n f g E → D ≡ E
  one_reduced D E p q = reduced_unique (reduced_modulus W n f g D p) p.call.result.reduced q.call.result.reduced

  pub one_product : (h h' : List ℕ) → AnsweredProduct W n f g h → AnsweredProduct W' n f g h' → h ≡ h'
  one_product h h' p q =
      p.words ∙ product_front n f g p.out p.out' p.call.out_is
      ∙ sym (q.words ∙ product_front n f g q.out q.out' q.call.out_is)

-- ---- two calls, whether they answer or not

-- refusals that come last and do not apply
none_follows : (t r : List Tested) → first_refusal r ≡ 0 → first_refusal (t ++ r) ≡ first_refusal t
none_follows [] r h = h
none_follows (x ∷ t) r h = ap (first_of (cond x.1 x.0 0)) (none_follows t r h)

-- a buffer, or three, long enough
one_enough : (k l m : ℕ) → 1 ≤ k → m ≤ l → first_refusal ((k, short l m) ∷ []) ≡ 0
one_enough k l m p h = (status_zero ((k, short l m) ∷ []) ((m ≤ l) ∷ []) ((p, short_fails l m), tt)).1 (h, tt)

abbrev last : ℕ → ℕ → ℕ → ℕ → ℕ → List Tested
last u v l m k = (6, short u m) ∷ (6, short v m) ∷ (7, short l k) ∷ []

three_enough : (u v l m k : ℕ) → m ≤ u → m ≤ v → k ≤ l → first_refusal (last u v l m k) ≡ 0
three_enough u v l m k a b c =
    (status_zero (last u v l m k) ((m ≤ u) ∷ (m ≤ v) ∷ (k ≤ l) ∷ [])
    ((omega arith, short_fails u m), ((omega arith, short_fails v m), ((omega arith, short_fails l k), tt)))).1 (a, (b, (c, tt)))

module _ (W W' : Width) (n : ℕ) (below : n < W.bound) (below' : n < W'.bound) where
  same_modulus : bad_modulus_of W n ≡ bad_modulus_of W' n
  same_modulus = ap (λ (t : Bool). cond (ltb n 2) true (not t)) (lt-ltb n W.bound below ∙ sym (lt-ltb n W'.bound below'))

  -- the refusals 1, 2 and 3
  same_pair_refusals : (f g : List ℕ) → first_refusal (refusals_of_pair W n f g) ≡ first_refusal (refusals_of_pair W' n f g)
  same_pair_refusals f g = ap (λ (t : Bool). first_of (cond t 1 0) (first_refusal ((2, bad_length_of f) ∷ (2, bad_length_of g)
      ∷ (3, not (all_below_of n f)) ∷ (3, not (all_below_of n g)) ∷ []))) same_modulus

  same_sent : (f g : List ℕ) → first_refusal (product_sent W n f g) ≡ first_refusal (product_sent W' n f g)
  same_sent f g = ap (λ (t : Bool). first_of (cond t 1 0) (first_refusal ((2, bad_length_of f) ∷ (2, bad_length_of g)
      ∷ (2, ltb 48 (deg f + deg g)) ∷ (3, not (all_below_of n f)) ∷ (3, not (all_below_of n g)) ∷ []))) same_modulus

  same_status : (f : List ℕ) → degree_status W n f ≡ degree_status W' n f
  same_status f = ap (λ (t : Bool). first_of (cond t 1 0) (first_refusal ((2, bad_length_of f) ∷ (3, not (all_below_of n f)) ∷ [])))
      same_modulus

  -- a and b are the working words of the two calls
  pub same_resultant : (f g a a' b b' : List ℕ) (r r' s t : ℕ) → W.working ≤ length a → W'.working ≤ length b
      → ResultantAnswer W n f g a a' r s → ResultantAnswer W' n f g b b' r' t → (s ≡ t) × (r ≡ r')
  same_resultant f g a a' b b' r r' s t la lb p q = (e, p.value_is ∙ ap (λ (x : ℕ). answered x (resultant n f g)) e ∙ sym q.value_is)
    where
      e : s ≡ t
      e =
          p.status_is
          ∙ none_follows (refusals_of_pair W n f g) ((7, short (length a) W.working) ∷ [])
          (one_enough 7 (length a) W.working (omega arith) la)
          ∙ same_pair_refusals f g
          ∙ sym (none_follows (refusals_of_pair W' n f g) ((7, short (length b) W'.working) ∷ [])
          (one_enough 7 (length b) W'.working (omega arith) lb))
          ∙ sym q.status_is

  -- the cofactors of D may differ
  pub same_reduced : (f g u u' v v' a a' x x' y y' b b' : List ℕ) (D E s t : ℕ) → W.working ≤ length a → W'.working ≤ length b
      → L n (deg f) (deg g) ≤ length u → L n (deg f) (deg g) ≤ length v → L n (deg f) (deg g) ≤ length x → L n (deg f) (deg g) ≤ length y
      → ReducedAnswer W n f g u u' v v' a a' D s → ReducedAnswer W' n f g x x' y y' b b' E t → (s ≡ t) × (D ≡ E)
  same_reduced f g u u' v v' a a' x x' y y' b b' D E s t la lb lu lv lx ly p q = (
    first ∙ same_pair_refusals f g ∙ sym second,
    go s t (first ∙ same_pair_refusals f g ∙ sym second) (λ z. let m = (accepted_pair W n f g (sym first ∙ z)).0.modulus in omega arith)
        p.result
        q.result,
  )
    where
      first : s ≡ first_refusal (refusals_of_pair W n f g)
      first =
          p.status_is
          ∙ none_follows (refusals_of_pair W n f g) (last (length u) (length v) (length a) (L n (deg f) (deg g)) W.working)
          (three_enough (length u) (length v) (length a) (L n (deg f) (deg g)) W.working lu lv la)

      second : t ≡ first_refusal (refusals_of_pair W' n f g)
      second =
          q.status_is
          ∙ none_follows (refusals_of_pair W' n f g) (last (length x) (length y) (length b) (L n (deg f) (deg g)) W'.working)
          (three_enough (length x) (length y) (length b) (L n (deg f) (deg g)) W'.working lx ly lb)

      go : (i j : ℕ) → i ≡ j → (i ≡ 0 → 1 ≤ n) → ReducedLeft i n f g u u' v v' D → ReducedLeft j n f g x x' y y' E → D ≡ E
      go zero zero e l c d = reduced_unique (l refl) c.reduced d.reduced
      go zero (suc j) e l c d = absurd (omega arith)
      go (suc i) zero e l c d = absurd (omega arith)
      go (suc i) (suc j) e l c d = c.nothing ∙ sym d.nothing

  -- the product's words, at the front of both result buffers
  pub same_product : (f g a a' b b' : List ℕ) (i j s t : ℕ) → suc (deg f + deg g) ≤ length a → suc (deg f + deg g) ≤ length b
      → ProductAnswer W n f g a a' i s → ProductAnswer W' n f g b b' j t
      → (s ≡ t) × (s ≡ 0 → take (length (product n f g)) a' ≡ take (length (product n f g)) b')
  same_product f g a a' b b' i j s t la lb p q = (e, λ z. front a a' s z p.out_is ∙ sym (front b b' t (sym e ∙ z) q.out_is))
    where
      e : s ≡ t
      e =
          p.status_is
          ∙ none_follows (product_sent W n f g) ((6, short (length a) (suc (deg f + deg g))) ∷ [])
          (one_enough 6 (length a) (suc (deg f + deg g)) (omega arith) la)
          ∙ same_sent f g
          ∙ sym (none_follows (product_sent W' n f g) ((6, short (length b) (suc (deg f + deg g))) ∷ [])
          (one_enough 6 (length b) (suc (deg f + deg g)) (omega arith) lb))
          ∙ sym q.status_is

      front : (c c' : List ℕ) (k : ℕ) → k ≡ 0 → c' ≡ replaced k (product n f g) c → take (length (product n f g)) c' ≡ product n f g
      front c c' k z h = product_front n f g c c' (h ∙ ap (λ (x : ℕ). replaced x (product n f g) c) z)

  pub same_degree : (f : List ℕ) (r r' : Degree) → TrueDegreeAnswer W n f r → TrueDegreeAnswer W' n f r' → r ≡ r'
  same_degree f r r' p q =
      p.case_is ∙ ap (λ (x : ℕ). told x (true_degree f)) (p.status_is ∙ same_status f ∙ sym q.status_is) ∙ sym q.case_is

  pub same_leading : (f a b : List ℕ) → LeadingAnswer W n f a → LeadingAnswer W' n f b → a ≡ b
  same_leading f a b p q = p.part_is ∙ ap (λ (x : ℕ). leading_part x (true_degree f) f) (same_status f) ∙ sym q.part_is
