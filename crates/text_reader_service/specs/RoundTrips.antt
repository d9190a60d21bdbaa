-- Writing and reading, one after the other: what the two services promise together, over any width W.
--
--   write_read     a polynomial that is written and read comes back with zero top words dropped
--   read_write     a text that is read and written comes back
use Rattle.std.specs.Prelude.{◌≡◌, refl, List, ◌++◌, ℕ, zero, suc, ◌-◌, ◌≤◌, length, take, drop, replicate}
use Rattle.std.proofs.Common.{sym, ap, ◌∙◌, subst, append_assoc, arith, length-append, take_at}
use Rattle.std.proofs.lemmas.List.{length-replicate}
use Rattle.refusals.specs.Refusals.{Width}
use Rattle.refusals.specs.Conditions.{status_zero}
use Rattle.text_notation.specs.Notation.{text, dropped, padded, TextOf}
use Rattle.text_notation.proofs.NotationLaws.{text_unique, written_read}
use Rattle.text_writer_service.specs.TextWriter.{WriteAnswer, write_refusals, write_conditions, write_listed}
use Rattle.text_reader_service.specs.TextReader.{ReadAnswer, read_refusals, read_conditions, read_listed}

-- the words w became w': f without its zero top words stands in them, zeros above up to 49
pub record ReadBack (f w w' : List ℕ) (value status : ℕ) : Type 0 where
  pub status_is : status ≡ 0
  pub value_is : value ≡ length (dropped f)
  pub words_are : w' ≡ padded 49 (dropped f) ++ drop 49 w

-- the bytes t became t': s stands in them, zeros above up to 800
pub record WrittenBack (s t t' : List ℕ) (value status : ℕ) : Type 0 where
  pub status_is : status ≡ 0
  pub value_is : value ≡ length s
  pub text_is : t' ≡ padded 800 s ++ drop (length (padded 800 s)) t

-- what stands in front of the zeros
front : (m v : ℕ) (x r : List ℕ) → v ≡ length x → take v (padded m x ++ r) ≡ x
front m v x r e =
    ap (take v) (append_assoc x (replicate (m - length x) 0) r) ∙ take_at x (replicate (m - length x) 0 ++ r) v (sym e)

padded_length : (m : ℕ) (x : List ℕ) → length x ≤ m → length (padded m x) ≡ m
padded_length m x h =
    length-append x (replicate (m - length x) 0) ∙ omega (arith, length-replicate {A = ℕ} (m - length x) 0)

module _ (W : Width) (n : ℕ) (f t t' : List ℕ) (v : ℕ) (a : WriteAnswer W n f t t' v 0) where
  text_there : take v t' ≡ text f
  text_there = ap (take v) a.text_is ∙ front 800 v (text f) (drop (length (padded 800 (text f))) t) a.value_is

  pub write_read : (w w' : List ℕ) (x s : ℕ) → ReadAnswer W n (take v t') w w' x s → 49 ≤ length w → ReadBack f w w' x s
  write_read w w' x s b h =
      let p = (status_zero (write_refusals W n f (length t)) (write_conditions W n f (length t)) (write_listed W n f (length t))).0
      (sym a.status_is) in
      let r : TextOf n (take v t') (dropped f) =
      subst (λ (y : List ℕ). TextOf n y (dropped f)) (sym text_there) (written_read n f p.1.0.some p.1.0.few p.1.1.0) in
      let z : s ≡ 0 =
      b.status_is ∙ (status_zero (read_refusals W n (take v t') (length w)) (read_conditions W n (take v t') (length w))
      (read_listed W n (take v t') (length w))).1 (p.0, ((dropped f, r), (h, tt))) in
      go s z b r
    where
      go : (s : ℕ) → s ≡ 0 → ReadAnswer W n (take v t') w w' x s → TextOf n (take v t') (dropped f) → ReadBack f w w' x s
      go zero z b r =
          let e : b.polynomial ≡ dropped f = text_unique (b.text_is refl) r in
          record {
            status_is = refl;
            value_is = b.value_is ∙ ap length e;
            words_are = b.words_are ∙ ap (λ (y : List ℕ). padded 49 y ++ drop (length (padded 49 y)) w) e
                ∙ ap (λ (k : ℕ). padded 49 (dropped f) ++ drop k w) (padded_length 49 (dropped f) r.few);
          }
      go (suc s) z b r = absurd (omega arith)

module _ (W : Width) (n : ℕ) (s w w' : List ℕ) (v : ℕ) (a : ReadAnswer W n s w w' v 0) where
  polynomial_there : take v w' ≡ a.polynomial
  polynomial_there = ap (take v) a.words_are ∙ front 49 v a.polynomial (drop (length (padded 49 a.polynomial)) w) a.value_is

  pub read_write : (t t' : List ℕ) (x r : ℕ) → WriteAnswer W n (take v w') t t' x r → 800 ≤ length t → WrittenBack s t t' x r
  read_write t t' x r b h =
      let p = (status_zero (read_refusals W n s (length w)) (read_conditions W n s (length w)) (read_listed W n s (length w))).0
      (sym a.status_is) in
      let q : TextOf n s (take v w') = subst (TextOf n s) (sym polynomial_there) (a.text_is refl) in
      let z : r ≡ 0 =
      b.status_is ∙ (status_zero (write_refusals W n (take v w') (length t)) (write_conditions W n (take v w') (length t))
      (write_listed W n (take v w') (length t))).1 (p.0, (record { some = q.some; few = q.few }, (q.residues, (h, tt)))) in
      go r z b q
    where
      go : (r : ℕ) → r ≡ 0 → WriteAnswer W n (take v w') t t' x r → TextOf n s (take v w') → WrittenBack s t t' x r
      go zero z b q = record {
        status_is = refl;
        value_is = b.value_is ∙ ap length (sym q.is);
        text_is = b.text_is ∙ ap (λ (y : List ℕ). padded 800 y ++ drop (length (padded 800 y)) t) (sym q.is);
      }
      go (suc r) z b q = absurd (omega arith)
