-- Euclid without inverses on words that were loaded, f from 0 on and g after it: its answer is about f and g.
--
--   found_two, entered_placed      what it asks
--   entered_answer                 what it answers
--   swapped_value                  the same where g goes first: the sign (-1)^(d e)
--   swapped_below, swapped_fits    what the sign asks for
--   value_found                    the value
use mathlib.Core.Path.{◌≡◌, refl, sym, ap, ap₂, subst, ◌∙◌}
use mathlib.Core.List.{List}
use mathlib.Core.Logic.{⊎_elim}
use Prim.Native.Nat.{ℕ, zero, suc, pred, ◌+◌, ◌-◌, ◌*◌, ◌%◌, ◌≤◌, ◌<◌}
use native.Mathlib.Omega.{arith}
use native.Mathlib.Nat.{mod-mod, mul-le-mul}
use lib.ListN.{length, get_or}
use Rattle.std.specs.Prelude.{Result, Ok}
use Rattle.definitions.specs.Polynomials.{coef}
use Rattle.definitions.specs.Resultants.{resultant}
use Rattle.law_polynomials.specs.ReachedSteps.{coef_beyond}
use Rattle.law_polynomials.specs.ResultantLaws.{signed, resultant_cong, resultant_swap}
use Rattle.windows.specs.Window.{piece, Loaded}
use Rattle.windows.proofs.Leaf.{lt_or_le, piece_at, piece_over, piece_length}
use Rattle.modulus.specs.declared.Modulus.{Modulus}
use Rattle.modulus.specs.Values.{ModulusOf, values}
use Rattle.modulus_windows.specs.LoopPromises.{Entered}
use Rattle.modulus_windows.proofs.Forms.{values_length}
use Rattle.coprime_test.specs.CoprimeAttempted.{TestLengthsAsked}
use Rattle.resultant_signs.specs.Degrees.{deg_of, resultant_lt}
use Rattle.coprime_test.proofs.Descents.{descent_placed}
use Rattle.resultant_pseudo.specs.StandingRuns.{Placed, EuclidAttempted}
use Rattle.resultant_pseudo.specs.declared.NotUnit.{NotUnit}
use Rattle.frame_runs.specs.Jobs.{EuclidAsked}

-- words that were loaded from a on are the polynomial, modulo n
same_words : (n a : ℕ) (f w : List ℕ) → 1 ≤ length f → ((k : ℕ) → k < length f → get_or w (a + k) 0 ≡ coef f k % n)
    → (k : ℕ) → coef (piece w a (length f - 1 + 1)) k % n ≡ coef f k % n
same_words n a f w some at k = ⊎_elim
    (λ l. ap (λ (x : ℕ). x % n) (piece_at w a (length f - 1 + 1) k (omega arith) ∙ at k l) ∙ mod-mod (coef f k) n)
    (λ l. ap (λ (x : ℕ). x % n) (piece_over w a (length f - 1 + 1) k (omega arith) ∙ sym (coef_beyond f k l)))
    (lt_or_le k (length f))

-- and have its degree
same_degree : (a : ℕ) (f w : List ℕ) → 1 ≤ length f → a + length f ≤ length w
    → pred (length (piece w a (length f - 1 + 1))) ≡ pred (length f)
same_degree a f w some fits =
    let e : length f - 1 + 1 ≡ length f = omega arith in
    ap pred (piece_length w a (length f - 1 + 1) (omega arith) ∙ e)

loaded_same : (n : ℕ) (f g w w₁ w₂ : List ℕ) → 2 ≤ n → TestLengthsAsked f g w → Loaded n 0 f w w₁ → Loaded n (length f) g w₁ w₂
    → resultant n (piece w₂ 0 (length f - 1 + 1)) (piece w₂ (length f) (length g - 1 + 1)) ≡ resultant n f g
loaded_same zero f g w w₁ w₂ two s lf lg = absurd (omega arith)
loaded_same (suc m) f g w w₁ w₂ two s lf lg =
    let F = piece w₂ 0 (length f - 1 + 1) in
    let G = piece w₂ (length f) (length g - 1 + 1) in
    resultant_cong m F f G g
    (same_degree 0 f w₂ s.some_f (omega (arith, lf.same, lg.same, s.fits)))
    (same_degree (length f) g w₂ s.some_g (omega (arith, lf.same, lg.same, s.fits)))
    (same_words (suc m) 0 f w₂ s.some_f (λ k l. lg.low (0 + k) (omega arith) ∙ lf.mid k l))
    (same_words (suc m) (length f) g w₂ s.some_g lg.mid)

pub found_two : {n : ℕ} {m : Modulus} → ModulusOf n m → 2 ≤ n → 2 ≤ m.n
found_two found two = subst (λ (z : ℕ). 2 ≤ z) (sym found.is) two

pub entered_answer : {n : ℕ} {m : Modulus} {f g w w₁ w₂ : List ℕ} (r : Result ℕ (NotUnit ℕ)) → ModulusOf n m → 2 ≤ n → TestLengthsAsked f g w
    → Entered m 0 f w w₁ → Entered m (length f) g w₁ w₂
    → EuclidAttempted m.n (resultant m.n (piece (values m w₂) 0 (length f - 1 + 1))
    (piece (values m w₂) (length f) (length g - 1 + 1))) r
    → EuclidAttempted n (resultant n f g) r
entered_answer {n} {m} {f} {g} {w} {w₁} {w₂} r found two s lf lg h =
    let sizes : TestLengthsAsked f g (values m w) =
    record { some_f = s.some_f; some_g = s.some_g; fits = omega (arith, s.fits, values_length m w) } in
    subst (λ (z : ℕ). EuclidAttempted z (resultant z f g) r) found.is
    (subst (λ (z : ℕ). EuclidAttempted m.n z r)
    (loaded_same m.n f g (values m w) (values m w₁) (values m w₂) (found_two found two) sizes lf.stands lg.stands) h)

pub entered_placed : {n : ℕ} {m : Modulus} {f g w w₁ w₂ : List ℕ} → ModulusOf n m → 2 ≤ n → TestLengthsAsked f g w → length f ≤ length g
    → Entered m 0 f w w₁ → Entered m (length f) g w₁ w₂ → Placed m.n 0 (length f - 1) (length f) (length g - 1) w₂
entered_placed found two s near lf lg = descent_placed lf lg found.known (found_two found two) s near refl refl refl refl refl

-- f and g in the other order
swapped_sign : (n : ℕ) (f g : List ℕ) → 2 ≤ n → 1 ≤ length f → 1 ≤ length g
    → signed n ((length f - 1) * (length g - 1)) (resultant n g f) ≡ resultant n f g
swapped_sign zero f g two a b = absurd (omega arith)
swapped_sign (suc m) f g two a b =
    let lf : length f ≡ length f - 1 + 1 = omega arith in
    let lg : length g ≡ length g - 1 + 1 = omega arith in
    ap (λ (x : ℕ). signed (suc m) x (resultant (suc m) g f))
    (sym (ap₂ (λ (x y : ℕ). x * y) (deg_of f (length f - 1) lf) (deg_of g (length g - 1) lg))) ∙ sym (resultant_swap m f g)

pub swapped_value : {n : ℕ} {f g w : List ℕ} {r : Result ℕ (NotUnit ℕ)} (v x : ℕ) → EuclidAsked n f g w → r ≡ Ok v
    → EuclidAttempted n (resultant n g f) r
    → x ≡ signed n ((length f - 1) * (length g - 1)) v → EuclidAttempted n (resultant n f g) (Ok x)
swapped_value {n} {f} {g} v x s e h i =
    let k : EuclidAttempted n (resultant n g f) (Ok v) = subst (EuclidAttempted n (resultant n g f)) e h in
    let is : x ≡ resultant n f g =
    i ∙ ap (signed n ((length f - 1) * (length g - 1))) k.0 ∙ swapped_sign n f g s.modulus s.least_f s.least_g in
    (is, subst (λ (z : ℕ). z < n) (sym is) (resultant_lt n (omega (arith, s.modulus)) f g))

pub swapped_below : (n x : ℕ) {r : Result ℕ (NotUnit ℕ)} (v : ℕ) → r ≡ Ok v → EuclidAttempted n x r → v < n
swapped_below n x v e h = (subst (EuclidAttempted n x) e h).1

pub value_found : (n x : ℕ) {r : Result ℕ (NotUnit ℕ)} (v : ℕ) → r ≡ Ok v → EuclidAttempted n x r → v ≡ x
value_found n x v e h = (subst (EuclidAttempted n x) e h).0

pub swapped_fits : {n : ℕ} {f g w : List ℕ} → EuclidAsked n f g w → (length f - 1) * (length g - 1) < 18446744073709551616
swapped_fits {f = f} {g = g} s =
    let a : length f - 1 ≤ 48 = omega (arith, s.most_f) in
    let b : length g - 1 ≤ 48 = omega (arith, s.most_g) in
    omega (arith, mul-le-mul a b)
