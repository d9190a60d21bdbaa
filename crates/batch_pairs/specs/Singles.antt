-- A batch beside the single calls, for any number that a pair has.
--
--   words_of F         the numbers F of all pairs
--   all_served         what is known of an answered batch
--   pairs_words        the result words after an answer, as one equation
--   single_served      where a batch is answered, none of the refusals 1, 2, 3 and 7 applies to one of its pairs
use Rattle.std.specs.Prelude.{◌≡◌, List, [], ◌∷◌, ◌++◌, ℕ, suc, ◌+◌, ◌-◌, ◌*◌, ◌<◌, ◌≤◌, length, drop}
use Rattle.std.proofs.Common.{sym, subst, ◌∙◌, mul-le-mul_right, arith, length-drop, get_or-take, get_or-drop, length-take-le}
use Rattle.definitions.specs.Polynomials.{tabulate, Residues}
use Rattle.law_polynomials.specs.Words.{coef_tabulate, length_tabulate}
use Rattle.refusals.specs.Refusals.{Width, short, first_refusal, refusals_of_pair}
use Rattle.refusals.specs.Conditions.{ServedLength, status_zero, conditions_of_pair, modulus_fails, length_fails, words_fail, short_fails}
use Rattle.refusals.specs.Fronts.{front_is}
use Rattle.batch_pairs.specs.Batches.{piece, ServedPieces, BatchAnswer, BatchServed, batch_served}

abbrev pub words_of : (List ℕ → List ℕ → ℕ) → List ℕ → ℕ → List ℕ → (e count : ℕ) → List ℕ
words_of F f d g e count = tabulate count (λ i. F (piece d i f) (piece e i g))

pub all_served : {P : List ℕ → List ℕ → ℕ → Type 0} {W : Width} {n : ℕ} {f : List ℕ} {d : ℕ} {g : List ℕ} {e count : ℕ}
    {out out' work work' : List ℕ} {value : ℕ} → BatchAnswer P W n f d g e count out out' work work' value 0
    → BatchServed W n f d g e count (length out) (length work)
all_served {P} {W} {n} {f} {d} {g} {e} {count} {out} {out'} {work} t =
    batch_served W n f d g e count (length out) (length work) (sym t.status_is)

pub pairs_words : (F : List ℕ → List ℕ → ℕ) {W : Width} {n : ℕ} {f : List ℕ} {d : ℕ} {g : List ℕ} {e count : ℕ}
    {out out' work work' : List ℕ} {value : ℕ} → BatchAnswer (λ x y r. r ≡ F x y) W n f d g e count out out' work work' value 0
    → out' ≡ words_of F f d g e count ++ drop count out
pairs_words F {W} {n} {f} {d} {g} {e} {count} {out} {out'} t =
    front_is count (words_of F f d g e count) out out' (length_tabulate count G) (all_served t).out t.out_is.same
    (λ i l. t.out_is.each i l ∙ sym (coef_tabulate count G i l)) t.out_is.beyond
  where
    G : ℕ → ℕ
    G i = F (piece d i f) (piece e i g)

-- the i-th piece has d + 1 words, and they are words of f
module _ {d count i : ℕ} (f : List ℕ) (s : ServedPieces d count (length f)) (l : i < count) where
  inside : suc i * suc d ≤ length f
  inside = omega (arith, s.words, mul-le-mul_right (suc d) l)

  piece_length : length (piece d i f) ≡ suc d
  piece_length =
      length-take-le (suc d) (drop (i * suc d) f)
      (subst (λ (k : ℕ). suc d ≤ k) (sym (length-drop (i * suc d) f)) (room i d (length f) inside))
    where
      room : (i d k : ℕ) → suc i * suc d ≤ k → suc d ≤ k - i * suc d
      room i d k h = omega arith

  piece_served : ServedLength (piece d i f)
  piece_served = record { some = omega (arith, piece_length); few = omega (arith, piece_length, s.most) }

  piece_residues : {n : ℕ} → Residues n f → Residues n (piece d i f)
  piece_residues {n} r = record {
    at = λ k h.
        subst (λ (x : ℕ). x < n)
        (sym (get_or-take (suc d) (drop (i * suc d) f) k 0 (omega (arith, piece_length)) ∙ get_or-drop (i * suc d) f k 0))
        (r.at (i * suc d + k) (omega (arith, piece_length, inside)));
  }

pub single_served : {P : List ℕ → List ℕ → ℕ → Type 0} {W : Width} {n : ℕ} {f : List ℕ} {d : ℕ} {g : List ℕ} {e count : ℕ}
    {out out' work work' : List ℕ} {value : ℕ} → BatchAnswer P W n f d g e count out out' work work' value 0 → {i : ℕ} → i < count
    → (m : ℕ) → W.working ≤ m → first_refusal (refusals_of_pair W n (piece d i f) (piece e i g) ++ ((7, short m W.working) ∷ [])) ≡ 0
single_served {P} {W} {n} {f} {d} {g} {e} {count} t {i} l m h =
    let s = all_served t in
    (status_zero (refusals_of_pair W n x y ++ ((7, short m W.working) ∷ [])) (conditions_of_pair W n x y ++ ((W.working ≤ m) ∷ [])) (
      (omega arith, modulus_fails W n),
      (
        (omega arith, length_fails x),
        (
          (omega arith, length_fails y),
          ((omega arith, words_fail n x), ((omega arith, words_fail n y), ((omega arith, short_fails m W.working), tt))),
        ),
      ),
    )).1 (
      s.modulus,
      (
        piece_served f s.first l,
        (
          piece_served g s.second l,
          (piece_residues f s.first l s.residues_f, (piece_residues g s.second l s.residues_g, (h, tt))),
        ),
      ),
    )
  where
    x : List ℕ
    x = piece d i f

    y : List ℕ
    y = piece e i g
