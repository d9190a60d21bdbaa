-- A normal form for expressions in a commutative ring, so that an identity is proved by computing both sides: a polynomial is a sorted list
-- of monomials with their signs, a monomial a sorted list of atoms. `by_ring 𝓡 ρ (search quote depth 20) (search quote depth 20) refl`
-- proves x ≡ y where ρ lists the atoms, ten at most.
--
--   E, den ρ e      expressions over numbered atoms, and their value where ρ lists the atoms
--   norm e          the normal form
--   solve           expressions with one normal form have one value
--   Quoted ρ x      an expression whose value is x; the ruleset `quote` finds it
--   by_ring         the identity, from the two quotations
--
-- Letters: e, f are expressions; m, n monomials; t, u terms; p, q polynomials in normal form.
use Rattle.std.specs.Prelude.{◌≡◌, T}
use Rattle.std.proofs.Math.Path.{refl, sym, ap, ap₂}
use Rattle.std.proofs.Common.{◌∙◌, eqb→eq}
use mathlib.Core.List.{List, [], ◌∷◌}
use Prim.Native.Nat.{ℕ, zero, suc, compare, Ordering}
use Rattle.std.proofs.Math.Dec.{compare_is_eq}
use Rattle.law_algebra.specs.Ring.{CRing, neg_zero, add_zero, add_left_comm, mul_zero, mul_neg, mul_left_comm}
use Rattle.law_algebra.specs.Ring.{add_mul, neg_neg, neg_mul, neg_of_add, add_neg_cancel, neg_add_cancel}

infixl 65 ◌⊕◌
infixl 70 ◌⊗◌
infix 75 ⊖◌
pub data E : Type 0 where
  var : ℕ → E
  ◌⊕◌ : E → E → E
  ◌⊗◌ : E → E → E
  ⊖◌ : E → E
  O : E
  I : E

abbrev pub Mono : Type 0
Mono = List ℕ

pub data Term : Type 0 where
  plus : Mono → Term
  minus : Mono → Term

abbrev pub Poly : Type 0
Poly = List Term

abbrev pub mono : Term → Mono
mono (plus m) = m
mono (minus m) = m

abbrev pub flip : Term → Term
flip (plus m) = minus m
flip (minus m) = plus m

abbrev pub thenC : Ordering → Ordering → Ordering
thenC Ordering.lt p = Ordering.lt
thenC Ordering.eq p = p
thenC Ordering.gt p = Ordering.gt

abbrev pub cmpM : Mono → Mono → Ordering
cmpM [] [] = Ordering.eq
cmpM [] (y ∷ ys) = Ordering.lt
cmpM (x ∷ xs) [] = Ordering.gt
cmpM (x ∷ xs) (y ∷ ys) = thenC (compare x y) (cmpM xs ys)

then_eq : (o p : Ordering) → T (compare_is_eq (thenC o p)) → T (compare_is_eq o) × T (compare_is_eq p)
then_eq Ordering.lt p t = absurd t
then_eq Ordering.eq p t = (tt, t)
then_eq Ordering.gt p t = absurd t

cmpM_eq : (a b : Mono) → T (compare_is_eq (cmpM a b)) → a ≡ b
cmpM_eq [] [] t = refl
cmpM_eq [] (y ∷ ys) t = absurd t
cmpM_eq (x ∷ xs) [] t = absurd t
cmpM_eq (x ∷ xs) (y ∷ ys) t =
    let h = then_eq (compare x y) (cmpM xs ys) t in
    ap₂ ◌∷◌ (eqb→eq x y h.0) (cmpM_eq xs ys h.1)

abbrev pub put_v : Ordering → ℕ → ℕ → Mono → Mono → Mono
put_v Ordering.lt v x xs r = v ∷ x ∷ xs
put_v Ordering.eq v x xs r = v ∷ x ∷ xs
put_v Ordering.gt v x xs r = x ∷ r

abbrev pub insV : ℕ → Mono → Mono
insV v [] = v ∷ []
insV v (x ∷ xs) = put_v (compare v x) v x xs (insV v xs)

abbrev pub mulM : Mono → Mono → Mono
mulM [] n = n
mulM (v ∷ m) n = insV v (mulM m n)

abbrev pub mulT : Term → Term → Term
mulT (plus m) (plus n) = plus (mulM m n)
mulT (plus m) (minus n) = minus (mulM m n)
mulT (minus m) (plus n) = minus (mulM m n)
mulT (minus m) (minus n) = plus (mulM m n)

abbrev pub merge : Term → Term → Poly → Poly
merge (plus m) (plus n) us = plus m ∷ plus n ∷ us
merge (plus m) (minus n) us = us
merge (minus m) (plus n) us = us
merge (minus m) (minus n) us = minus m ∷ minus n ∷ us

abbrev pub put_t : Ordering → Term → Term → Poly → Poly → Poly
put_t Ordering.lt t u us r = t ∷ u ∷ us
put_t Ordering.eq t u us r = merge t u us
put_t Ordering.gt t u us r = u ∷ r

abbrev pub insT : Term → Poly → Poly
insT t [] = t ∷ []
insT t (u ∷ us) = put_t (cmpM (mono t) (mono u)) t u us (insT t us)

abbrev pub addP : Poly → Poly → Poly
addP [] q = q
addP (t ∷ p) q = insT t (addP p q)

abbrev pub negP : Poly → Poly
negP [] = []
negP (t ∷ p) = flip t ∷ negP p

abbrev pub scaleP : Term → Poly → Poly → Poly
scaleP t [] acc = acc
scaleP t (u ∷ q) acc = insT (mulT t u) (scaleP t q acc)

abbrev pub mulP : Poly → Poly → Poly
mulP [] q = []
mulP (t ∷ p) q = scaleP t q (mulP p q)

abbrev pub norm : E → Poly
norm (var i) = plus (i ∷ []) ∷ []
norm (e ⊕ f) = addP (norm e) (norm f)
norm (e ⊗ f) = mulP (norm e) (norm f)
norm (⊖ e) = negP (norm e)
norm O = []
norm I = plus [] ∷ []

module _ {R : Type 0} (𝓡 : CRing R) (ρ : List R) where
  open 𝓡 use {add as ◌+◌, mul as ◌*◌, neg as -◌, nil as 𝟘, unit as 𝟙, add_assoc, zero_add, mul_assoc, mul_comm, one_mul, mul_add}

  infixl 65 ◌+◌
  infixl 70 ◌*◌
  infix 75 -◌
  abbrev pub at : List R → ℕ → R
  at [] i = 𝟘
  at (x ∷ xs) zero = x
  at (x ∷ xs) (suc i) = at xs i

  abbrev pub den : E → R
  den (var i) = at ρ i
  den (e ⊕ f) = den e + den f
  den (e ⊗ f) = den e * den f
  den (⊖ e) = - den e
  den O = 𝟘
  den I = 𝟙

  evM : Mono → R
  evM [] = 𝟙
  evM (v ∷ m) = at ρ v * evM m

  evT : Term → R
  evT (plus m) = evM m
  evT (minus m) = - evM m

  evP : Poly → R
  evP [] = 𝟘
  evP (t ∷ p) = evT t + evP p

  putV_ok : (o : Ordering) (v x : ℕ) (xs r : Mono) → evM r ≡ at ρ v * evM xs → evM (put_v o v x xs r) ≡ at ρ v * (at ρ x * evM xs)
  unfolding evM
  putV_ok Ordering.lt v x xs r h = refl
  putV_ok Ordering.eq v x xs r h = refl
  putV_ok Ordering.gt v x xs r h = ap (λ y. at ρ x * y) h ∙ mul_left_comm 𝓡 (at ρ x) (at ρ v) (evM xs)

  insV_ok : (v : ℕ) (m : Mono) → evM (insV v m) ≡ at ρ v * evM m
  unfolding evM
  insV_ok v [] = refl
  insV_ok v (x ∷ xs) = putV_ok (compare v x) v x xs (insV v xs) (insV_ok v xs)

  mulM_ok : (m n : Mono) → evM (mulM m n) ≡ evM m * evM n
  unfolding evM
  mulM_ok [] n = sym (one_mul (evM n))
  mulM_ok (v ∷ m) n = insV_ok v (mulM m n) ∙ ap (λ y. at ρ v * y) (mulM_ok m n) ∙ sym (mul_assoc (at ρ v) (evM m) (evM n))

  mulT_ok : (t u : Term) → evT (mulT t u) ≡ evT t * evT u
  unfolding evT
  mulT_ok (plus m) (plus n) = mulM_ok m n
  mulT_ok (plus m) (minus n) = ap (λ y. - y) (mulM_ok m n) ∙ sym (mul_neg 𝓡 (evM m) (evM n))
  mulT_ok (minus m) (plus n) = ap (λ y. - y) (mulM_ok m n) ∙ sym (neg_mul 𝓡 (evM m) (evM n))
  mulT_ok (minus m) (minus n) = mulM_ok m n ∙ sym (neg_mul 𝓡 (evM m) (- evM n) ∙ ap (λ y. - y) (mul_neg 𝓡 (evM m) (evM n))
      ∙ neg_neg 𝓡 (evM m * evM n))

  merge_ok : (t u : Term) (us : Poly) → mono t ≡ mono u → evP (merge t u us) ≡ evT t + (evT u + evP us)
  unfolding evP evT
  merge_ok (plus m) (plus n) us h = refl
  merge_ok (plus m) (minus n) us h = sym (ap (λ y. evM m + (- evM y + evP us)) (sym h) ∙ add_neg_cancel 𝓡 (evM m) (evP us))
  merge_ok (minus m) (plus n) us h = sym (ap (λ y. - evM m + (evM y + evP us)) (sym h) ∙ neg_add_cancel 𝓡 (evM m) (evP us))
  merge_ok (minus m) (minus n) us h = refl

  putT_ok : (o : Ordering) (t u : Term) (us r : Poly) → (T (compare_is_eq o) → mono t ≡ mono u) → evP r ≡ evT t + evP us
      → evP (put_t o t u us r) ≡ evT t + (evT u + evP us)
  unfolding evP
  putT_ok Ordering.lt t u us r e h = refl
  putT_ok Ordering.eq t u us r e h = merge_ok t u us (e tt)
  putT_ok Ordering.gt t u us r e h = ap (λ y. evT u + y) h ∙ add_left_comm 𝓡 (evT u) (evT t) (evP us)

  insT_ok : (t : Term) (p : Poly) → evP (insT t p) ≡ evT t + evP p
  unfolding evP
  insT_ok t [] = refl
  insT_ok t (u ∷ us) = putT_ok (cmpM (mono t) (mono u)) t u us (insT t us) (cmpM_eq (mono t) (mono u)) (insT_ok t us)

  addP_ok : (p q : Poly) → evP (addP p q) ≡ evP p + evP q
  unfolding evP
  addP_ok [] q = sym (zero_add (evP q))
  addP_ok (t ∷ p) q = insT_ok t (addP p q) ∙ ap (λ y. evT t + y) (addP_ok p q) ∙ sym (add_assoc (evT t) (evP p) (evP q))

  flip_ok : (t : Term) → evT (flip t) ≡ - evT t
  unfolding evT
  flip_ok (plus m) = refl
  flip_ok (minus m) = sym (neg_neg 𝓡 (evM m))

  negP_ok : (p : Poly) → evP (negP p) ≡ - evP p
  unfolding evP
  negP_ok [] = sym (neg_zero 𝓡)
  negP_ok (t ∷ p) = ap₂ ◌+◌ (flip_ok t) (negP_ok p) ∙ sym (neg_of_add 𝓡 (evT t) (evP p))

  scaleP_ok : (t : Term) (q acc : Poly) → evP (scaleP t q acc) ≡ evT t * evP q + evP acc
  unfolding evP
  scaleP_ok t [] acc = sym (ap (λ y. y + evP acc) (mul_zero 𝓡 (evT t)) ∙ zero_add (evP acc))
  scaleP_ok t (u ∷ q) acc =
      insT_ok (mulT t u) (scaleP t q acc) ∙ ap₂ ◌+◌ (mulT_ok t u) (scaleP_ok t q acc)
      ∙ sym (add_assoc (evT t * evT u) (evT t * evP q) (evP acc)) ∙ ap (λ y. y + evP acc) (sym (mul_add (evT t) (evT u) (evP q)))

  mulP_ok : (p q : Poly) → evP (mulP p q) ≡ evP p * evP q
  unfolding evP
  mulP_ok [] q = sym (mul_comm 𝟘 (evP q) ∙ mul_zero 𝓡 (evP q))
  mulP_ok (t ∷ p) q = scaleP_ok t q (mulP p q) ∙ ap (λ y. evT t * evP q + y) (mulP_ok p q) ∙ sym (add_mul 𝓡 (evT t) (evP p) (evP q))

  norm_ok : (e : E) → evP (norm e) ≡ den e
  unfolding evP evT evM
  norm_ok (var i) = add_zero 𝓡 (at ρ i * 𝟙) ∙ mul_comm (at ρ i) 𝟙 ∙ one_mul (at ρ i)
  norm_ok (e ⊕ f) = addP_ok (norm e) (norm f) ∙ ap₂ ◌+◌ (norm_ok e) (norm_ok f)
  norm_ok (e ⊗ f) = mulP_ok (norm e) (norm f) ∙ ap₂ ◌*◌ (norm_ok e) (norm_ok f)
  norm_ok (⊖ e) = negP_ok (norm e) ∙ ap (λ y. - y) (norm_ok e)
  norm_ok O = refl
  norm_ok I = add_zero 𝓡 𝟙

  pub solve : (e f : E) → norm e ≡ norm f → den e ≡ den f
  solve e f h = sym (norm_ok e) ∙ ap evP h ∙ norm_ok f

-- an expression whose value is x
pub record Quoted {R : Type 0} (𝓡 : CRing R) (ρ : List R) (x : R) : Type 0 where
  pub e : E
  pub ok : den 𝓡 ρ e ≡ x

module _ {R : Type 0} {𝓡 : CRing R} {ρ : List R} where
  abbrev pub q_add : {x y : R} → Quoted 𝓡 ρ x → Quoted 𝓡 ρ y → Quoted 𝓡 ρ (𝓡.add x y)
  q_add a b = record { e = a.e ⊕ b.e; ok = ap₂ 𝓡.add a.ok b.ok }

  abbrev pub q_mul : {x y : R} → Quoted 𝓡 ρ x → Quoted 𝓡 ρ y → Quoted 𝓡 ρ (𝓡.mul x y)
  q_mul a b = record { e = a.e ⊗ b.e; ok = ap₂ 𝓡.mul a.ok b.ok }

  abbrev pub q_neg : {x : R} → Quoted 𝓡 ρ x → Quoted 𝓡 ρ (𝓡.neg x)
  q_neg a = record { e = ⊖ a.e; ok = ap 𝓡.neg a.ok }

  abbrev pub q_zero : Quoted 𝓡 ρ 𝓡.nil
  q_zero = record { e = O; ok = refl }

  abbrev pub q_one : Quoted 𝓡 ρ 𝓡.unit
  q_one = record { e = I; ok = refl }

module _ {R : Type 0} {𝓡 : CRing R} where
  abbrev pub q0 : {a : R} {l : List R} → Quoted 𝓡 (a ∷ l) a
  q0 = record { e = var 0; ok = refl }

  abbrev pub q1 : {a b : R} {l : List R} → Quoted 𝓡 (b ∷ a ∷ l) a
  q1 = record { e = var 1; ok = refl }

  abbrev pub q2 : {a b c : R} {l : List R} → Quoted 𝓡 (c ∷ b ∷ a ∷ l) a
  q2 = record { e = var 2; ok = refl }

  abbrev pub q3 : {a b c d : R} {l : List R} → Quoted 𝓡 (d ∷ c ∷ b ∷ a ∷ l) a
  q3 = record { e = var 3; ok = refl }

  abbrev pub q4 : {a b c d e : R} {l : List R} → Quoted 𝓡 (e ∷ d ∷ c ∷ b ∷ a ∷ l) a
  q4 = record { e = var 4; ok = refl }

  abbrev pub q5 : {a b c d e f : R} {l : List R} → Quoted 𝓡 (f ∷ e ∷ d ∷ c ∷ b ∷ a ∷ l) a
  q5 = record { e = var 5; ok = refl }

  abbrev pub q6 : {a b c d e f g : R} {l : List R} → Quoted 𝓡 (g ∷ f ∷ e ∷ d ∷ c ∷ b ∷ a ∷ l) a
  q6 = record { e = var 6; ok = refl }

  abbrev pub q7 : {a b c d e f g h : R} {l : List R} → Quoted 𝓡 (h ∷ g ∷ f ∷ e ∷ d ∷ c ∷ b ∷ a ∷ l) a
  q7 = record { e = var 7; ok = refl }

  abbrev pub q8 : {x8 x7 x6 x5 x4 x3 x2 x1 x0 : R} {l : List R} → Quoted 𝓡 (x8 ∷ x7 ∷ x6 ∷ x5 ∷ x4 ∷ x3 ∷ x2 ∷ x1 ∷ x0 ∷ l) x0
  q8 = record { e = var 8; ok = refl }

  abbrev pub q9 : {x9 x8 x7 x6 x5 x4 x3 x2 x1 x0 : R} {l : List R} → Quoted 𝓡 (x9 ∷ x8 ∷ x7 ∷ x6 ∷ x5 ∷ x4 ∷ x3 ∷ x2 ∷ x1 ∷ x0 ∷ l) x0
  q9 = record { e = var 9; ok = refl }

pub by_ring : {R : Type 0} (𝓡 : CRing R) (ρ : List R) {x y : R} (l : Quoted 𝓡 ρ x) (r : Quoted 𝓡 ρ y) → norm l.e ≡ norm r.e → x ≡ y
by_ring 𝓡 ρ l r h = sym l.ok ∙ solve 𝓡 ρ l.e r.e h ∙ r.ok

pub ruleset quote = (q_zero, q_one, q0, q1, q2, q3, q4, q5, q6, q7, q8, q9, q_neg, q_add, q_mul)
