-- The definitions' expansion and Sylvester's matrix, over the operations of any commutative ring, are the ring's determinant and resultant.
--
--   operations 𝓡     a ring's operations
--   determinant_of    the expansion is the ring's determinant
--   expansion_is      that of Sylvester's matrix is the ring's resultant
--
-- Letters: f, g are coefficient sequences of degrees d and e, the constant first; a is a matrix of n rows and columns.
use Rattle.std.specs.Prelude.{◌≡◌, Bool, true, false, not, T, leb, ltb}
use Rattle.std.proofs.Math.Path.{refl, ap, ap₂, fun_ext}
use Rattle.std.proofs.Common.{sym, ◌∙◌, subst, leb→le, ltb→lt, nltb→le}
use Rattle.std.proofs.Math.Bool.{cond}
use Prim.Native.Nat.{ℕ, zero, suc, ◌+◌ as ◌+ℕ◌, ◌-◌ as ◌-ℕ◌}
use native.Mathlib.Omega.{arith}
use Rattle.std.proofs.Math.Dec.{nleb→lt}
use Rattle.definitions.specs.Expansions.{Operations, beside, alternating, expansion, entry_of, rows_of}
use Rattle.law_algebra.specs.Determinant.{det, minor}
use Rattle.law_algebra.specs.Index.{skip}
use Rattle.law_algebra.specs.Resultant.{shift, shift_low, shift_at, res}
use Rattle.law_algebra.specs.Reverse.{rv, rv_at, rv_out}
use Rattle.law_algebra.specs.Ring.{CRing}
use Rattle.law_algebra.specs.SentLaws.{Rs}
use Rattle.law_algebra.specs.Stack.{stack, stack_top, up, up_is}
use Rattle.law_algebra.specs.Sum.{alt}

beside_is : (i r : ℕ) → beside i r ≡ skip i r
beside_is zero r = refl
beside_is (suc i) zero = refl
beside_is (suc i) (suc r) = ap suc (beside_is i r)

module _ {R : Type 0} (𝓡 : CRing R) where
  abbrev pub operations : Operations R
  operations = record { nought = 𝓡.nil; one = 𝓡.unit; plus = 𝓡.add; times = 𝓡.mul; opposite = 𝓡.neg }

  alternating_is : (n : ℕ) (F : ℕ → R) → alternating operations n F ≡ alt 𝓡 n F
  alternating_is zero F = refl
  alternating_is (suc n) F = ap (λ (x : R). 𝓡.add (F zero) (𝓡.neg x)) (alternating_is n (λ i. F (suc i)))

  pub determinant_of : (n : ℕ) (a : ℕ → ℕ → R) → expansion operations n a ≡ det 𝓡 n a
  unfolding expansion det
  determinant_of zero a = refl
  determinant_of (suc n) a =
      alternating_is (suc n) (λ i. 𝓡.mul (a i 0) (expansion operations n (λ r c. a (beside i r) (suc c))))
      ∙ ap (alt 𝓡 (suc n)) (fun_ext (λ i. ap (λ (x : R). 𝓡.mul (a i 0) x)
      (ap (expansion operations n) (fun_ext (λ r. fun_ext (λ c. ap (λ (x : ℕ). a x (suc c)) (beside_is i r))))
      ∙ determinant_of n (minor 𝓡 i a))))

  entry_is : (d : ℕ) (f : ℕ → R) (i j : ℕ) → entry_of operations d f i j ≡ shift 𝓡 i (rv 𝓡 d f) j
  entry_is d f i j = go (leb i j) refl (leb j (i +ℕ d)) refl
    where
      go : (s : Bool) → leb i j ≡ s → (t : Bool) → leb j (i +ℕ d) ≡ t
          → cond s (cond t (f (i +ℕ d -ℕ j)) 𝓡.nil) 𝓡.nil ≡ shift 𝓡 i (rv 𝓡 d f) j
      go true h true g =
          let p = leb→le i j (subst T (sym h) tt) in
          let q = leb→le j (i +ℕ d) (subst T (sym g) tt) in
          sym (shift_at 𝓡 i (rv 𝓡 d f) j (j -ℕ i) (omega arith) ∙ rv_at 𝓡 d f (j -ℕ i) (i +ℕ d -ℕ j) (omega arith))
      go true h false g =
          let p = leb→le i j (subst T (sym h) tt) in
          let q = nleb→lt j (i +ℕ d) (subst (λ t. T (not t)) (sym g) tt) in
          sym (shift_at 𝓡 i (rv 𝓡 d f) j (j -ℕ i) (omega arith) ∙ rv_out 𝓡 d f (j -ℕ i) (omega arith))
      go false h true g = sym (shift_low 𝓡 i j (rv 𝓡 d f) (nleb→lt i j (subst (λ t. T (not t)) (sym h) tt)))
      go false h false g = sym (shift_low 𝓡 i j (rv 𝓡 d f) (nleb→lt i j (subst (λ t. T (not t)) (sym h) tt)))

  stack_cond : (e : ℕ) (a b : ℕ → ℕ → R) (r c : ℕ) → cond (ltb r e) (a r c) (b (r -ℕ e) c) ≡ stack e a b r c
  stack_cond e a b r c = go (ltb r e) refl
    where
      rest : (e : ℕ) (a b : ℕ → ℕ → R) (r s : ℕ) → e +ℕ s ≡ r → stack e a b r c ≡ b s c
      rest zero a b r s h = ap (λ (k : ℕ). b k c) (omega arith)
      rest (suc e) a b zero s h = absurd (omega arith)
      rest (suc e) a b (suc r) s h = rest e (λ i. a (suc i)) b r s (omega arith)

      go : (t : Bool) → ltb r e ≡ t → cond t (a r c) (b (r -ℕ e) c) ≡ stack e a b r c
      go true h = sym (ap (λ (v : ℕ → R). v c) (stack_top e a b r (ltb→lt r e (subst T (sym h) tt))))
      go false h = let l = nltb→le r e (subst (λ t. T (not t)) (sym h) tt) in sym (rest e a b r (r -ℕ e) (omega arith))

  -- the definition over a ring's operations is the ring's resultant
  pub expansion_is : (d e : ℕ) (f g : ℕ → R) → expansion operations (d +ℕ e) (rows_of operations d e f g) ≡ Rs 𝓡 d e f g
  unfolding res
  expansion_is d e f g =
      determinant_of (d +ℕ e) (rows_of operations d e f g)
      ∙ ap₂ (λ (k : ℕ) (a : ℕ → ℕ → R). det 𝓡 k a) (swap d e (up_is e d))
      (fun_ext (λ r. fun_ext (λ c. ap₂ (λ x y. cond (ltb r e) x y) (entry_is d f r c) (entry_is e g (r -ℕ e) c)
      ∙ stack_cond e (λ i. shift 𝓡 i (rv 𝓡 d f)) (λ i. shift 𝓡 i (rv 𝓡 e g)) r c)))
    where
      swap : (d e : ℕ) → up e d ≡ e +ℕ d → d +ℕ e ≡ up e d
      swap d e h = omega arith
