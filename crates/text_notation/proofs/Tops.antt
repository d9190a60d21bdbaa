-- Zero top words: they have no term, and dropping them loses nothing.
--
--   text_padded                       zeros above do not change the text
--   dropped_above                     nor what is left when they are dropped
--   padded_dropped                    putting them back gives the polynomial again
--   dropped_dropped, text_dropped     what is left has no zero top word, and the same text
--   dropped_zeros                     of a zero polynomial the single word 0 is left
use Rattle.std.specs.Prelude.{◌≡◌, refl, Bool, true, false, List, [], ◌∷◌, ◌++◌, ℕ, zero, suc, ◌-◌, ◌≤◌, eqb, length, take, replicate}
use Rattle.std.proofs.Common.{sym, ap, ap₂, ◌∙◌, arith, length-take-le, eqb-true}
use Rattle.std.proofs.lemmas.List.{take-append-le}
use Rattle.definitions.specs.Polynomials.{extent, TrueDegree, none, place, true_degree}
use Rattle.law_polynomial_tests.specs.Counts.{extent_length}
use Rattle.text_notation.specs.Notation.{term, plus_joined, terms, or_zero, text, last_place, dropped, padded}

terms_zeros : (k m : ℕ) → terms k (replicate m 0) ≡ []
unfolding terms
terms_zeros k zero = refl
terms_zeros k (suc m) = ap (λ (s : List ℕ). plus_joined s []) (terms_zeros (suc k) m)

pub terms_above : (k : ℕ) (f : List ℕ) (m : ℕ) → terms k (f ++ replicate m 0) ≡ terms k f
unfolding terms
terms_above k [] m = terms_zeros k m
terms_above k (c ∷ f) m = ap (λ (s : List ℕ). plus_joined s (term c k)) (terms_above (suc k) f m)

pub text_padded : (m : ℕ) (f : List ℕ) → text (padded m f) ≡ text f
text_padded m f = ap or_zero (terms_above 0 f (m - length f))

-- ---- the extent

abbrev longer : Bool → ℕ → ℕ
longer t e = elim e [ zero ↦ elim t [ true ↦ 0 | false ↦ 1 ] | suc k ↦ suc (suc k) ]

extent_zeros : (m : ℕ) → extent (replicate m 0) ≡ 0
unfolding extent
extent_zeros zero = refl
extent_zeros (suc m) = ap (longer (eqb 0 0)) (extent_zeros m)

extent_above : (f : List ℕ) (m : ℕ) → extent (f ++ replicate m 0) ≡ extent f
unfolding extent
extent_above [] m = extent_zeros m
extent_above (x ∷ f) m = ap (longer (eqb x 0)) (extent_above f m)

-- a list is its words up to the highest nonzero one, and zeros
above : (f : List ℕ) → f ≡ take (extent f) f ++ replicate (length f - extent f) 0
unfolding extent
above [] = refl
above (x ∷ f) = go (eqb x 0) (extent f) refl (extent_length f) (above f)
  where
    go : (t : Bool) (e : ℕ) → eqb x 0 ≡ t → e ≤ length f → f ≡ take e f ++ replicate (length f - e) 0
        → x ∷ f ≡ take (longer t e) (x ∷ f) ++ replicate (suc (length f) - longer t e) 0
    go true zero p h q =
        let z : suc (length f) - 0 ≡ suc (length f - 0) = omega arith in
        ap₂ (λ (y : ℕ) (g : List ℕ). y ∷ g) (eqb-true x 0 p) q ∙ ap (λ (m : ℕ). replicate m 0) (sym z)
    go false zero p h q =
        let z : suc (length f) - 1 ≡ length f - 0 = omega arith in
        ap (λ (g : List ℕ). x ∷ g) q ∙ ap (λ (m : ℕ). x ∷ replicate m 0) (sym z)
    go t (suc e) p h q =
        let z : suc (length f) - suc (suc e) ≡ length f - suc e = omega arith in
        ap (λ (g : List ℕ). x ∷ g) q ∙ ap (λ (m : ℕ). x ∷ (take (suc e) f ++ replicate m 0)) (sym z)

-- ---- dropping

-- the place of the last word that is kept, from the extent
abbrev kept : ℕ → ℕ
kept e = last_place (elim e [ zero ↦ none | suc k ↦ place k ])

pub dropped_within : (f : List ℕ) → 1 ≤ length f → suc (last_place (true_degree f)) ≤ length f
dropped_within f h = go (extent f) (extent_length f)
  where
    go : (e : ℕ) → e ≤ length f → suc (kept e) ≤ length f
    go zero l = h
    go (suc e) l = l

pub dropped_length : (f : List ℕ) → 1 ≤ length f → length (dropped f) ≡ suc (last_place (true_degree f))
dropped_length f h = length-take-le (suc (last_place (true_degree f))) f (dropped_within f h)

pub dropped_above : (f : List ℕ) (m : ℕ) → 1 ≤ length f → dropped (f ++ replicate m 0) ≡ dropped f
dropped_above f m h =
    ap (λ (e : ℕ). take (suc (kept e)) (f ++ replicate m 0)) (extent_above f m)
    ∙ take-append-le (suc (last_place (true_degree f))) f (replicate m 0) (dropped_within f h)

pub dropped_rest : (f : List ℕ) → 1 ≤ length f → f ≡ dropped f ++ replicate (length f - suc (last_place (true_degree f))) 0
dropped_rest [] h = absurd (omega arith)
dropped_rest (x ∷ f) h = go (extent (x ∷ f)) (above (x ∷ f))
  where
    zeros : (g : List ℕ) (m : ℕ) → x ∷ g ≡ replicate (suc m) 0 → x ∷ g ≡ x ∷ replicate m 0
    zeros g m e = cc

    go : (e : ℕ) → x ∷ f ≡ take e (x ∷ f) ++ replicate (suc (length f) - e) 0
        → x ∷ f ≡ take (suc (kept e)) (x ∷ f) ++ replicate (suc (length f) - suc (kept e)) 0
    go zero q =
        let y : suc (length f) - 0 ≡ suc (length f) = omega arith in
        let z : suc (length f) - 1 ≡ length f = omega arith in
        zeros f (length f) (q ∙ ap (λ (m : ℕ). replicate m 0) y) ∙ ap (λ (m : ℕ). x ∷ replicate m 0) (sym z)
    go (suc e) q = q

pub dropped_dropped : (f : List ℕ) → 1 ≤ length f → dropped f ≡ dropped (dropped f)
dropped_dropped f h =
    ap dropped (dropped_rest f h)
    ∙ dropped_above (dropped f) (length f - suc (last_place (true_degree f))) (omega (arith, dropped_length f h))

pub padded_dropped : (f : List ℕ) → 1 ≤ length f → padded (length f) (dropped f) ≡ f
padded_dropped f h =
    ap (λ (l : ℕ). dropped f ++ replicate (length f - l) 0) (dropped_length f h) ∙ sym (dropped_rest f h)

pub text_dropped : (f : List ℕ) → 1 ≤ length f → text (dropped f) ≡ text f
text_dropped f h = sym (text_padded (length f) (dropped f)) ∙ ap text (padded_dropped f h)

-- S58: "a zero polynomial comes back as the single word 0"
pub dropped_zeros : (m : ℕ) → dropped (replicate (suc m) 0) ≡ 0 ∷ []
dropped_zeros m = ap (λ (e : ℕ). take (suc (kept e)) (replicate (suc m) 0)) (extent_zeros (suc m))
