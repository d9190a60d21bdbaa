-- The text of a polynomial comes to its words, with zeros above.
--
--   Takes G t w v       read into the words w, the characters t give v, if there are any
--   gathered_text       the text of f gives f, zeros above
use Rattle.std.specs.Prelude.{◌≡◌, refl, eqb, length, set, replicate}
use Rattle.std.proofs.Common.{sym, ◌∙◌, subst, length-append}
use Rattle.std.proofs.Math.Path.{ap, ap₂}
use Rattle.std.proofs.Math.Bool.{cond}
use mathlib.Core.List.{List, [], ◌∷◌, ◌++◌, append-nil, append_assoc}
use Prim.Native.Nat.{ℕ, zero, suc, ◌+◌, ◌-◌, ◌*◌, ◌/◌, ◌%◌, ◌≤◌, ◌<◌}
use native.Mathlib.Omega.{arith}
use Rattle.std.proofs.Math.Decide.{dec_lt}
use Rattle.std.proofs.lemmas.List.{length-replicate, replicate-append-replicate, set_at}
use borrow.Author.Tests.{ne_eqb}
use Rattle.definitions.specs.Polynomials.{coef}
use Rattle.text_notation.specs.Notation.{digits_within, decimal, power_text, term, plus_joined, terms, or_zero, text, padded}
use Rattle.text_notation.proofs.Decimals.{within_small, within_large, decimal_some}
use Rattle.text_notation.specs.Candidates.{number_after_of, coefficient_after_of, stored, gathered}

-- the coefficient c of power k, put to its place
abbrev pub set_term : ℕ → ℕ → List ℕ → List ℕ
set_term k zero w = w
set_term k (suc c) w = set w k (suc c)

abbrev pub filled : ℕ → List ℕ → List ℕ → List ℕ
filled k [] w = w
filled k (c ∷ f) w = set_term k c (filled (suc k) f w)

pub record Takes (G : ℕ → ℕ) (t w v : List ℕ) : Type 0 where
  pub none : t ≡ [] → v ≡ w
  pub last : (t ≡ [] → ⊥) → gathered G t 0 0 w ≡ v
  pub more : (t ≡ [] → ⊥) → (s : List ℕ) → gathered G (t ++ 43 ∷ s) 0 0 w ≡ gathered G s 0 0 v

some : (a : ℕ) (t : List ℕ) → a ∷ t ≡ [] → ⊥
some a t e = omega (arith, ap length e)

takes_joined : (G : ℕ → ℕ) (t u w v y : List ℕ) → Takes G t w v → Takes G u v y → Takes G (plus_joined t u) w y
takes_joined G [] u w v y p q = subst (λ (x : List ℕ). Takes G u x y) (p.none refl) q
takes_joined G (a ∷ t) [] w v y p q = subst (λ (x : List ℕ). Takes G (a ∷ t) w x) (sym (q.none refl)) p
takes_joined G (a ∷ t) (b ∷ u) w v y p q = record {
  none = λ e. absurd (some a (t ++ 43 ∷ b ∷ u) e);
  last = λ _. p.more (some a t) (b ∷ u) ∙ q.last (some b u);
  more = λ _ s. ap (λ (x : List ℕ). gathered G x 0 0 w) (append_assoc (a ∷ t) (43 ∷ b ∷ u) (43 ∷ s))
      ∙ p.more (some a t) ((b ∷ u) ++ 43 ∷ s)
      ∙ q.more (some b u) s;
}

one_more : (k : ℕ) (r : List ℕ) → replicate (suc k) 0 ++ r ≡ replicate k 0 ++ 0 ∷ r
one_more zero r = refl
one_more (suc k) r = ap (λ (x : List ℕ). 0 ∷ x) (one_more k r)

put_is : (k c : ℕ) (r : List ℕ) → set_term k c (replicate k 0 ++ 0 ∷ r) ≡ replicate k 0 ++ c ∷ r
put_is k zero r = refl
put_is k (suc c) r = set_at (replicate k 0) 0 r (suc c) k (length-replicate k 0)

filled_is : (k : ℕ) (f : List ℕ) (m : ℕ) → filled k f (replicate (k + length f + m) 0) ≡ replicate k 0 ++ (f ++ replicate m 0)
filled_is k [] m =
    let e : k + 0 + m ≡ k + m = omega arith in
    ap (λ (l : ℕ). replicate l 0) e ∙ sym (replicate-append-replicate k m 0)
filled_is k (c ∷ f) m =
    let e : k + suc (length f) + m ≡ suc k + length f + m = omega arith in
    ap (λ (l : ℕ). set_term k c (filled (suc k) f (replicate l 0))) e
    ∙ ap (set_term k c) (filled_is (suc k) f m ∙ one_more k (f ++ replicate m 0))
    ∙ put_is k c (f ++ replicate m 0)

none_stored : (G : ℕ → ℕ) → gathered G [] 0 0 (replicate 49 0) ≡ replicate 49 0
unfolding gathered
none_stored G = refl

-- numbers below B are taken as they are
module _ (G : ℕ → ℕ) (B : ℕ) (fits : (y : ℕ) → y < B → G y ≡ y) where
  take_digit : (d : ℕ) (s : List ℕ) (c x : ℕ) (w : List ℕ) → d < 10 → x * 10 + d < B
      → gathered G ((48 + d) ∷ s) c x w ≡ gathered G s c (x * 10 + d) w
  unfolding gathered
  take_digit d s c x w h l =
      let plus = ne_eqb (48 + d) 43 (λ e. omega arith) in
      let star = ne_eqb (48 + d) 42 (λ e. omega arith) in
      let hat = ne_eqb (48 + d) 94 (λ e. omega arith) in
      let letter = ne_eqb (48 + d) 120 (λ e. omega arith) in
      let value : (48 + d) % 16 ≡ d = omega arith in
      let number : number_after_of G (48 + d) x ≡ x * 10 + d = simp (plus, star, hat, letter, value) (fits (x * 10 + d) l) in
      let coefficient : coefficient_after_of (48 + d) c x ≡ c = simp (plus, star) in
      let words : cond (eqb (48 + d) 43) (stored c x w) w ≡ w = simp plus in
      ap (λ (i : ℕ). gathered G s i (number_after_of G (48 + d) x) (cond (eqb (48 + d) 43) (stored c x w) w)) coefficient
      ∙ ap₂ (λ (i : ℕ) (v : List ℕ). gathered G s c i v) number words

  take_digits : (k y : ℕ) (s : List ℕ) (c : ℕ) (w : List ℕ) → y < k → y < B
      → gathered G (digits_within k y ++ s) c 0 w ≡ gathered G s c y w
  take_digits zero y s c w h l = absurd (omega arith)
  take_digits (suc k) y s c w h l = go (dec_lt y 10) (take_digits k (y / 10))
    where
      go : Dec (y < 10) → ((s : List ℕ) (c : ℕ) (w : List ℕ) → y / 10 < k → y / 10 < B
          → gathered G (digits_within k (y / 10) ++ s) c 0 w ≡ gathered G s c (y / 10) w)
          → gathered G (digits_within (suc k) y ++ s) c 0 w ≡ gathered G s c y w
      go (yes p) ih =
          ap (λ (t : List ℕ). gathered G (t ++ s) c 0 w) (within_small k y p)
          ∙ take_digit y s c 0 w p (omega arith)
          ∙ ap (λ (x : ℕ). gathered G s c x w) (omega arith)
      go (no p) ih =
          ap (λ (t : List ℕ). gathered G (t ++ s) c 0 w) (within_large k y (omega arith))
          ∙ ap (λ (t : List ℕ). gathered G t c 0 w) (append_assoc (digits_within k (y / 10)) ((48 + y % 10) ∷ []) s)
          ∙ ih ((48 + y % 10) ∷ s) c w (omega arith) (omega arith)
          ∙ take_digit (y % 10) s c (y / 10) w (omega arith) (omega arith)
          ∙ ap (λ (x : ℕ). gathered G s c x w) (omega arith)

  take_decimal : (y : ℕ) (s : List ℕ) (c : ℕ) (w : List ℕ) → y < B → gathered G (decimal y ++ s) c 0 w ≡ gathered G s c y w
  take_decimal y s c w l = take_digits (suc y) y s c w (omega arith) l

  -- after a term the text ends, or a plus sign follows
  take_last : (c k : ℕ) (w : List ℕ) → suc c < B → k < B → gathered G (term (suc c) k) 0 0 w ≡ set_term k (suc c) w
  unfolding gathered
  take_last c zero w h l = take_decimal (suc c) [] 0 w h
  take_last c (suc zero) w h l = take_decimal (suc c) (42 ∷ 120 ∷ []) 0 w h
  take_last c (suc (suc k)) w h l =
      take_decimal (suc c) (42 ∷ 120 ∷ 94 ∷ decimal (suc (suc k))) 0 w h
      ∙ ap (λ (t : List ℕ). gathered G t (suc c) 0 w) (sym (append-nil (decimal (suc (suc k)))))
      ∙ take_decimal (suc (suc k)) [] (suc c) w l

  take_more : (c k : ℕ) (w s : List ℕ) → suc c < B → k < B
      → gathered G (term (suc c) k ++ 43 ∷ s) 0 0 w ≡ gathered G s 0 0 (set_term k (suc c) w)
  unfolding gathered
  take_more c zero w s h l =
      ap (λ (t : List ℕ). gathered G t 0 0 w) (append_assoc (decimal (suc c)) [] (43 ∷ s)) ∙ take_decimal (suc c) (43 ∷ s) 0 w h
  take_more c (suc zero) w s h l =
      ap (λ (t : List ℕ). gathered G t 0 0 w) (append_assoc (decimal (suc c)) (42 ∷ 120 ∷ []) (43 ∷ s))
      ∙ take_decimal (suc c) (42 ∷ 120 ∷ 43 ∷ s) 0 w h
  take_more c (suc (suc k)) w s h l =
      ap (λ (t : List ℕ). gathered G t 0 0 w) (append_assoc (decimal (suc c)) (42 ∷ 120 ∷ 94 ∷ decimal (suc (suc k))) (43 ∷ s))
      ∙ take_decimal (suc c) (42 ∷ 120 ∷ 94 ∷ (decimal (suc (suc k)) ++ 43 ∷ s)) 0 w h
      ∙ take_decimal (suc (suc k)) (43 ∷ s) (suc c) w l

  takes_term : (c k : ℕ) (w : List ℕ) → c < B → k < B → Takes G (term c k) w (set_term k c w)
  takes_term zero k w h l = record { none = λ _. refl; last = λ e. absurd (e refl); more = λ e. absurd (e refl) }
  takes_term (suc c) k w h l = record {
    none = λ e. absurd (omega (arith, ap length e, length-append (decimal (suc c)) (power_text k), decimal_some (suc c)));
    last = λ _. take_last c k w h l;
    more = λ _ s. take_more c k w s h l;
  }

  takes_terms : (k : ℕ) (f w : List ℕ) → k + length f ≤ B → ((i : ℕ) → i < length f → coef f i < B) → Takes G (terms k f) w (filled k f w)
  unfolding terms
  takes_terms k [] w l h = record { none = λ _. refl; last = λ e. absurd (e refl); more = λ e. absurd (e refl) }
  takes_terms k (c ∷ f) w l h =
      takes_joined G (terms (suc k) f) (term c k) w (filled (suc k) f w) (set_term k c (filled (suc k) f w))
      (takes_terms (suc k) f w (omega arith) (λ i m. h (suc i) (omega arith)))
      (takes_term c k (filled (suc k) f w) (h 0 (omega arith)) (omega arith))

  pub gathered_text : (f : List ℕ) → length f ≤ 49 → 49 ≤ B → ((i : ℕ) → i < length f → coef f i < B)
      → gathered G (text f) 0 0 (replicate 49 0) ≡ padded 49 f
  gathered_text f l b h = go (terms 0 f) (takes_terms 0 f (replicate 49 0) (omega arith) h) ∙ filled_all
    where
      filled_all : filled 0 f (replicate 49 0) ≡ padded 49 f
      filled_all =
          let e : 49 ≡ 0 + length f + (49 - length f) = omega arith in
          ap (λ (m : ℕ). filled 0 f (replicate m 0)) e ∙ filled_is 0 f (49 - length f)

      zeros : gathered G (48 ∷ []) 0 0 (replicate 49 0) ≡ gathered G [] 0 0 (replicate 49 0)
      zeros = take_digit 0 [] 0 0 (replicate 49 0) (omega arith) (omega arith)

      go : (t : List ℕ) → Takes G t (replicate 49 0) (filled 0 f (replicate 49 0))
          → gathered G (or_zero t) 0 0 (replicate 49 0) ≡ filled 0 f (replicate 49 0)
      go [] p = zeros ∙ none_stored G ∙ sym (p.none refl)
      go (a ∷ t) p = p.last (some a t)
