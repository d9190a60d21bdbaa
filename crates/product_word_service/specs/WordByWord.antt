-- S35: "Called with k from 0 to d + e, it leaves the whole product": calls of `product_word` on one buffer leave what the product leaves,
-- whatever the buffer held, in any order of the k, where each from 0 to d + e is asked for at least once.
--
--   WordCalls ks out out'     calls for the words ks, one after the other, made out' of out
--   Among k ks                k is one of ks
--   words_make_product        in any order
--   words_in_order            k from 0 to d + e
use Rattle.std.specs.Prelude.{◌≡◌, refl, Bool, true, false, cond, ◌⊎◌, List, [], ◌∷◌, ◌++◌, ℕ, zero, suc, ◌+◌, ◌≤◌, ◌<◌, T, ltb, length, drop, set}
use Rattle.std.proofs.Common.{sym, ap, subst, ◌∙◌, inl, inr, arith, ltb→lt, length-set, get_or-set_same, get_or-set_other, lt-ltb}
use Rattle.std.proofs.Math.Decide.{ℕ_discrete}
use Rattle.definitions.specs.Polynomials.{coef, deg, tabulate, product}
use Rattle.refusals.specs.Refusals.{Width, replaced}
use Rattle.refusals.specs.Conditions.{status_zero}
use Rattle.refusals.specs.Fronts.{front_is}
use Rattle.product_service.specs.ProductService.{product_refusals, product_status, product_conditions, product_listed, ProductAnswer}
use Rattle.product_service.proofs.ProductReturns.{product_words}
use Rattle.product_word_service.specs.ProductWord.{word_replaced, ProductWordAnswer}

-- each call takes the buffer as the one before left it
pub data WordCalls (W : Width) (n : ℕ) (f g : List ℕ) : List ℕ → List ℕ → List ℕ → Type 0 where
  none : {out : List ℕ} → WordCalls W n f g [] out out
  call : {k value status : ℕ} {ks out mid out' : List ℕ} → ProductWordAnswer W n f g k out mid value status
      → WordCalls W n f g ks mid out' → WordCalls W n f g (k ∷ ks) out out'

abbrev pub Among : ℕ → List ℕ → Type 0
Among k [] = ⊥
Among k (j ∷ ks) = (k ≡ j) ⊎ Among k ks

-- the buffer after calls of status s for the words ks of x
abbrev pub words_replaced : ℕ → List ℕ → List ℕ → List ℕ → List ℕ
words_replaced s [] x w = w
words_replaced s (k ∷ ks) x w = words_replaced s ks x (word_replaced s k x w)

-- ---- one call

pub word_length : (s k : ℕ) (x w : List ℕ) → length (word_replaced s k x w) ≡ length w
word_length zero k x w = go (ltb k (length x))
  where
    go : (t : Bool) → length (cond t (set w k (coef x k)) w) ≡ length w
    go true = length-set w k (coef x k)
    go false = refl
word_length (suc s) k x w = refl

made : (k : ℕ) (x w : List ℕ) → k < length x → length x ≤ length w → coef (word_replaced 0 k x w) k ≡ coef x k
made k x w l r =
    ap (λ (t : Bool). coef (cond t (set w k (coef x k)) w) k) (lt-ltb k (length x) l) ∙ get_or-set_same w k (coef x k) 0 (omega arith)

kept : (k : ℕ) (x w : List ℕ) (i : ℕ) → length x ≤ length w → i < length x → coef w i ≡ coef x i
    → coef (word_replaced 0 k x w) i ≡ coef x i
kept k x w i r l h = pick (ℕ_discrete i k)
  where
    go : (i ≡ k → ⊥) → (t : Bool) → coef (cond t (set w k (coef x k)) w) i ≡ coef x i
    go ne true = get_or-set_other w k i (coef x k) 0 ne ∙ h
    go ne false = h

    pick : Dec (i ≡ k) → coef (word_replaced 0 k x w) i ≡ coef x i
    pick (yes e) =
        subst (λ (j : ℕ). coef (word_replaced 0 k x w) j ≡ coef x j) (sym e) (made k x w (subst (λ (j : ℕ). j < length x) e l) r)
    pick (no ne) = go ne (ltb k (length x))

beyond : (k : ℕ) (x w : List ℕ) (i : ℕ) → length x ≤ i → coef (word_replaced 0 k x w) i ≡ coef w i
beyond k x w i l = go (ltb k (length x)) refl
  where
    go : (t : Bool) → ltb k (length x) ≡ t → coef (cond t (set w k (coef x k)) w) i ≡ coef w i
    go true e = let b = ltb→lt k (length x) (subst T (sym e) tt) in get_or-set_other w k i (coef x k) 0 (λ h. omega arith)
    go false e = refl

-- ---- all calls

words_length : (s : ℕ) (ks x w : List ℕ) → length (words_replaced s ks x w) ≡ length w
words_length s [] x w = refl
words_length s (k ∷ ks) x w = words_length s ks x (word_replaced s k x w) ∙ word_length s k x w

words_kept : (ks x w : List ℕ) (i : ℕ) → length x ≤ length w → i < length x → coef w i ≡ coef x i
    → coef (words_replaced 0 ks x w) i ≡ coef x i
words_kept [] x w i r l h = h
words_kept (k ∷ ks) x w i r l h =
    words_kept ks x (word_replaced 0 k x w) i (subst (λ (m : ℕ). length x ≤ m) (sym (word_length 0 k x w)) r) l (kept k x w i r l h)

words_made : (ks x w : List ℕ) (i : ℕ) → length x ≤ length w → i < length x → Among i ks → coef (words_replaced 0 ks x w) i ≡ coef x i
words_made [] x w i r l h = absurd h
words_made (k ∷ ks) x w i r l (inl e) =
    words_kept ks x (word_replaced 0 k x w) i (subst (λ (m : ℕ). length x ≤ m) (sym (word_length 0 k x w)) r) l
    (subst (λ (j : ℕ). coef (word_replaced 0 k x w) j ≡ coef x j) (sym e) (made k x w (subst (λ (j : ℕ). j < length x) e l) r))
words_made (k ∷ ks) x w i r l (inr h) =
    words_made ks x (word_replaced 0 k x w) i (subst (λ (m : ℕ). length x ≤ m) (sym (word_length 0 k x w)) r) l h

words_beyond : (ks x w : List ℕ) (i : ℕ) → length x ≤ i → coef (words_replaced 0 ks x w) i ≡ coef w i
words_beyond [] x w i l = refl
words_beyond (k ∷ ks) x w i l = words_beyond ks x (word_replaced 0 k x w) i l ∙ beyond k x w i l

words_refused : (s : ℕ) (ks x w : List ℕ) → words_replaced (suc s) ks x w ≡ w
words_refused s [] x w = refl
words_refused s (k ∷ ks) x w = words_refused s ks x w

-- ---- the whole

words_whole : (ks x w : List ℕ) → length x ≤ length w → ((i : ℕ) → i < length x → Among i ks)
    → words_replaced 0 ks x w ≡ x ++ drop (length x) w
words_whole ks x w r all =
    front_is (length x) x w (words_replaced 0 ks x w) refl r (words_length 0 ks x w) (λ i l. words_made ks x w i r l (all i l))
    (words_beyond ks x w)

calls_replace : {W : Width} {n : ℕ} {f g ks out out' : List ℕ} → WordCalls W n f g ks out out' → (s : ℕ)
    → s ≡ product_status W n f g (length out) → out' ≡ words_replaced s ks (product n f g) out
calls_replace none s e = refl
calls_replace {W} {n} {f} {g} (call {k = k} {status = t} {ks = ks} {out = out} {mid = mid} a rest) s e =
    let same : t ≡ s = a.status_is ∙ sym e in
    let now : mid ≡ word_replaced s k (product n f g) out = a.out_is ∙ ap (λ (u : ℕ). word_replaced u k (product n f g) out) same in
    let long : length mid ≡ length out = ap length now ∙ word_length s k (product n f g) out in
    calls_replace rest s (e ∙ ap (product_status W n f g) (sym long)) ∙ ap (words_replaced s ks (product n f g)) now

-- calls for words that have each k from 0 to d + e among them, on any buffer, leave what the product leaves there, refused or answered
pub words_make_product : {W : Width} {n value status : ℕ} {f g ks out out' out'' : List ℕ} → ((k : ℕ) → k ≤ deg f + deg g → Among k ks)
    → WordCalls W n f g ks out out' → ProductAnswer W n f g out out'' value status → out' ≡ out''
words_make_product {W} {n} {value} {status} {f} {g} {ks} {out} {out'} {out''} all calls p =
    calls_replace calls status p.status_is ∙ go status p.status_is ∙ sym p.out_is
  where
    long : length (product n f g) ≡ suc (deg f + deg g)
    long = product_words n f g

    go : (s : ℕ) → s ≡ product_status W n f g (length out) → words_replaced s ks (product n f g) out ≡ replaced s (product n f g) out
    go zero e =
        let c = (status_zero (product_refusals W n f g (length out)) (product_conditions W n f g (length out))
        (product_listed W n f g (length out))).0 (sym e) in
        words_whole ks (product n f g) out (subst (λ (m : ℕ). m ≤ length out) (sym long) c.1.1.1.1.1.1.0)
        (λ i l. all i (at_most i (deg f + deg g) (subst (λ (m : ℕ). i < m) long l)))
      where
        at_most : (i m : ℕ) → i < suc m → i ≤ m
        at_most i m l = omega arith
    go (suc s) e = words_refused s ks (product n f g) out

among_tabulate : (m : ℕ) (F : ℕ → ℕ) (i : ℕ) → i < m → Among (F i) (tabulate m F)
among_tabulate zero F i l = absurd (omega arith)
among_tabulate (suc m) F zero l = inl refl
among_tabulate (suc m) F (suc i) l = inr (among_tabulate m (λ j. F (suc j)) i (omega arith))

-- S35: "Called with k from 0 to d + e, it leaves the whole product."
pub words_in_order : {W : Width} {n value status : ℕ} {f g out out' out'' : List ℕ}
    → WordCalls W n f g (tabulate (suc (deg f + deg g)) (λ k. k)) out out' → ProductAnswer W n f g out out'' value status → out' ≡ out''
words_in_order {f = f} {g = g} calls p =
    words_make_product (λ k l. among_tabulate (suc (deg f + deg g)) (λ j. j) k (omega arith)) calls p
