-- The loop over the columns: its rounds, its start, and the answer after its end.
--
--   column_asked, leave_asked, moment_next       a round
--   moment_start, moment_end                     the loop's start and end
--   step_asked, last_row                         all columns
--   Scaling                                      words of a multiplier written out
--   finished                                     the answer
--   rounds, ends                                 the rules
use mathlib.Core.Path.{◌≡◌, refl, sym, ap, ◌∙◌, subst}
use mathlib.Core.List.{List}
use Prim.Native.Nat.{ℕ, zero, suc, pred, ◌+◌, ◌*◌, ◌-◌, ◌%◌, ◌<◌, ◌≤◌}
use native.Mathlib.Decide.{dec_lt}
use native.Mathlib.Nat.{mod-lt, mod-mod}
use native.Mathlib.Omega.{arith}
use lib.ListN.{length, get_or, replicate, get_or-eq_default}
use borrow.Author.Rules.{rules}
use Rattle.definitions.specs.Polynomials.{coef, Residues}
use Rattle.definitions.specs.Resultants.{resultant, Combination}
use Rattle.resultant_signs.specs.Degrees.{deg_of}
use Rattle.windows.specs.Window.{piece}
use Rattle.windows.proofs.Leaf.{piece_at, piece_over}
use Rattle.law_rows.specs.LiveWords.{LiveWords, words_value, words_answer}
use Rattle.law_rows.specs.WordSteps.{words_start}
use Rattle.band_clearing.specs.Bands.{window, Shape, Band, HeadsBelow, ColumnAsked, ColumnCleared, LeaveAsked, RowLeft, CameIn}
use Rattle.band_clearing.specs.Bands.{Moment, StepAsked, LastAsked, LastRow, Scaled, CofactorsAsked, ResultantCofactors}
use Rattle.band_clearing.proofs.Cells.{window_at, window_over}
use Rattle.band_rows.proofs.ColumnTurns.{band_cast, head_word}
pub use Rattle.band_rows.proofs.Ends.{residue_small}

-- ---- a round

heads_of : {n : ℕ} {f g : List ℕ} {b d e s l p q x : ℕ} {w : List ℕ} → 1 ≤ b → Band n f g b d e s l p q x w → HeadsBelow n w
heads_of {n} {b = b} {w = w} h t = record { at = λ r. subst (λ (y : ℕ). y < n) (head_word b w r h) (t.below r 0) }

module _ {n : ℕ} {f g : List ℕ} {b d e j l x : ℕ} {w : List ℕ} (a : StepAsked n f g b d e) (lj : j < d + e) (room : 7250 ≤ length w)
    (m : Moment n f g b d e j l x w) where
  module _ {l' x' : ℕ} {w₁ : List ℕ} (c : CameIn n f g d e j l x w l' x' w₁) where
    come_band : Band n f g b d e 1 l' (e - (j + 1)) (d - (j + 1)) x' w₁
    come_band = c.band b a.shape a.residues_f a.residues_g m.band

    some_rows : 1 ≤ l'
    some_rows = omega (arith, c.count)

    few_rows : l' < 50
    few_rows = omega (arith, c.count, a.shape.first, a.shape.second, a.shape.most)

    pub column_asked : {t : ℕ} → length w₁ ≡ length w → t < l' → ColumnAsked n b d e l' t w₁
    column_asked h lt = record {
      modulus = omega (arith, a.modulus);
      shape = a.shape;
      rows = few_rows;
      row = lt;
      room = omega (arith, room, h);
      heads = heads_of (omega (arith, a.shape.first)) come_band;
    }

    module _ {p : ℕ} {w₂ : List ℕ} (k : ColumnCleared n b d e l' l' p w₁ w₂) where
      pub leave_asked : {i : ℕ} → length w₁ ≡ length w → i ≡ l' - 1 → LeaveAsked n b p i x' w₂
      leave_asked h ei = record {
        modulus = omega (arith, a.modulus);
        row = omega (arith, k.pivot);
        rows = omega (arith, few_rows);
        some = omega (arith, a.shape.first);
        most = a.shape.most;
        factor = come_band.factor;
        room = omega (arith, room, h, k.keeps.same);
      }

      pub moment_next : {j' i y : ℕ} {w₃ : List ℕ} → RowLeft n b p i x' w₂ w₃ y → i ≡ l' - 1 → j' ≡ j + 1 → Moment n f g b d e j' i y w₃
      moment_next r ei ej = rw (ei, ej) (record {
        band = (rw ei at r).band f g d e (e - (j + 1)) (d - (j + 1)) a.shape (λ i h z. k.zeros i (omega (arith, some_rows)) z)
            (band_cast (omega (arith, some_rows)) refl refl
            (k.keeps.band f g 1 (e - (j + 1)) (d - (j + 1)) x' come_band));
        count = omega (arith, c.count);
      })

-- ---- the start

all_zero : (k i : ℕ) → ◌≡◌ {A = ℕ} (get_or (replicate k 0) i 0) 0
all_zero zero i = refl
all_zero (suc k) zero = refl
all_zero (suc k) (suc i) = all_zero k i

piece_zeros : (k a l c : ℕ) → coef (piece (replicate k 0) a l) c ≡ 0
piece_zeros k a l c = go (dec_lt c l)
  where
    go : Dec (c < l) → coef (piece (replicate k 0) a l) c ≡ 0
    go (yes h) = piece_at (replicate k 0) a l c h ∙ all_zero k (a + c)
    go (no h) = piece_over (replicate k 0) a l c (omega arith)

pub moment_start : {n : ℕ} {f g : List ℕ} {b d e : ℕ} {w : List ℕ} (k : ℕ) → StepAsked n f g b d e → w ≡ replicate k 0
    → Moment n f g b d e 0 0 1 w
moment_start {n} {f} {g} {b} {d} {e} {w} k a h = record {
  band = band_cast refl (deg_of g e a.second ∙ none e) (deg_of f d a.first ∙ none d) (record {
    live = words_start (pred n) f g (window 0 b w) (window 49 e w) (window 97 d w);
    below = λ r c. subst (λ (y : ℕ). y < n) (sym (ap (λ (u : List ℕ). window 0 b u r c) h ∙ piece_zeros k (145 * r + 0) b c))
        (omega (arith, a.modulus));
    factor = omega (arith, a.modulus);
  });
  count = omega arith;
}
  where
    none : (e : ℕ) → e ≡ e - 0
    none e = omega arith

pub moment_end : {n : ℕ} {f g : List ℕ} {b d e j j' l x : ℕ} {w : List ℕ} → Moment n f g b d e j l x w → j ≤ j' → j' ≤ j
    → Moment n f g b d e j' l x w
moment_end {n} {f} {g} {b} {d} {e} {j} {j'} {l} {x} {w} m p q = subst (λ (y : ℕ). Moment n f g b d e y l x w) (omega arith) m

pub ruleset rounds = (rules, column_asked, leave_asked, moment_next, moment_start, moment_end)

-- ---- words of a multiplier written out

-- the first k words are written
pub record Scaling (n x at k : ℕ) (w u u' : List ℕ) : Type 0 where
  pub most : k ≤ length u
  pub same : length u' ≡ length u
  pub word : (i : ℕ) → i < k → get_or u' i 0 ≡ (x * get_or w (at + i) 0) % n

-- ---- the end

module _ {n : ℕ} {f g : List ℕ} {b d e x : ℕ} {w : List ℕ} (two : 2 ≤ n) (shape : Shape b d e)
    (t : Band n f g b d e 1 1 0 0 x w) where
  scaled_at : (o len : ℕ) (u u' : List ℕ) → length u ≡ len → Scaled n x o w u u' → (k : ℕ) → coef u' k % n ≡ (x * window o len w 0 k) % n
  scaled_at o len u u' h s k = go (dec_lt k len)
    where
      go : Dec (k < len) → coef u' k % n ≡ (x * window o len w 0 k) % n
      go (yes l) =
          ap (λ (y : ℕ). y % n) (s.word k (omega (arith, h))) ∙ mod-mod _ n
          ∙ ap (λ (y : ℕ). (x * y) % n) (ap (λ (z : ℕ). get_or w z 0) (omega arith) ∙ sym (window_at o len w 0 k l))
      go (no l) =
          ap (λ (y : ℕ). y % n) (get_or-eq_default u' 0 (omega (arith, s.same, h)) ∙ nothing x)
          ∙ ap (λ (y : ℕ). (x * y) % n) (sym (window_over o len w 0 k (omega arith)))
        where
          nothing : (x : ℕ) → 0 ≡ x * 0
          nothing x = omega arith

  scaled_residues : (o : ℕ) (u u' : List ℕ) → Scaled n x o w u u' → Residues n u'
  scaled_residues o u u' s = record {
    at = λ k l. subst (λ (y : ℕ). y < n) (sym (s.word k (omega (arith, s.same)))) (mod-lt _ (omega (arith, two)));
  }

  answered : {u u' v v' : List ℕ} {r : ℕ} → length u ≡ e → length v ≡ d → Scaled n x 49 w u u' → Scaled n x 97 w v v'
      → r ≡ (x * get_or w 0 0) % n → ResultantCofactors n f g u' v' r
  answered {u} {u'} {v} {v'} {r} hu hv su sv hr = record {
    value = value;
    first = scaled_residues 49 u u' su;
    second = scaled_residues 97 v v' sv;
    combination = subst (λ (y : ℕ). Combination n f g u' v' y) (sym value)
        (answer n two t.live (scaled_at 49 e u u' hu su) (scaled_at 97 d v v' hv sv));
  }
    where
      first_word : get_or w 0 0 ≡ window 0 b w 0 0
      first_word = ap (λ (z : ℕ). get_or w z 0) (omega arith) ∙ sym (head_word b w 0 (omega (arith, shape.first)))

      known : (n : ℕ) → 2 ≤ n → LiveWords (pred n) f g 1 1 0 0 x (window 0 b w) (window 49 e w) (window 97 d w)
          → resultant n f g ≡ (x * window 0 b w 0 0) % n
      known zero h y = absurd (omega arith)
      known (suc m) h y = words_value m f g x (window 0 b w) (window 49 e w) (window 97 d w) y

      value : r ≡ resultant n f g
      value = hr ∙ ap (λ (y : ℕ). (x * y) % n) first_word ∙ sym (known n two t.live)

      answer : (n : ℕ) → 2 ≤ n → LiveWords (pred n) f g 1 1 0 0 x (window 0 b w) (window 49 e w) (window 97 d w)
          → ((k : ℕ) → coef u' k % n ≡ (x * window 49 e w 0 k) % n) → ((k : ℕ) → coef v' k % n ≡ (x * window 97 d w 0 k) % n)
          → Combination n f g u' v' (resultant n f g)
      answer zero h y p q = absurd (omega arith)
      answer (suc m) h y p q = words_answer m f g u' v' x (window 0 b w) (window 49 e w) (window 97 d w) y p q

-- ---- the whole

pub step_asked : {n : ℕ} {f g w : List ℕ} {b d e : ℕ} → LastAsked n f g w → d < b → e < b → b ≤ 49 → d ≡ length f - 1 → e ≡ length g - 1
    → StepAsked n f g b d e
step_asked a p q r ed ee = record {
  modulus = a.modulus;
  shape = record { first = p; second = q; most = r };
  first = omega (arith, a.some_f);
  second = omega (arith, a.some_g);
  residues_f = a.residues_f;
  residues_g = a.residues_g;
  some = omega (arith, a.some_f, a.some_g, a.degrees);
}

-- one row and one column are left
pub last_row : {n : ℕ} {f g : List ℕ} {d e j l x l' x' : ℕ} {w₀ w w₁ : List ℕ} (b : ℕ) → LastAsked n f g w₀ → d < b → e < b → b ≤ 49
    → Moment n f g b (length f - 1) (length g - 1) j l x w → CameIn n f g (length f - 1) (length g - 1) j l x w l' x' w₁
    → j ≡ length f - 1 + (length g - 1) - 1 → d ≡ length f - 1 → e ≡ length g - 1 → LastRow n f g x' w₁
last_row b a p q r m c ej ed ee =
    let s = step_asked a p q r ed ee in
    record {
      b = b;
      shape = record { first = omega arith; second = omega arith; most = r };
      band = band_cast (omega (arith, c.count, s.some)) (omega (arith, s.some)) (omega (arith, s.some))
          (c.band b (record { first = omega arith; second = omega arith; most = r }) a.residues_f a.residues_g m.band);
    }

pub finished : {n r : ℕ} {f g u' v' : List ℕ} (x : ℕ) (u v w w₁ : List ℕ) → CofactorsAsked n f g u v w → LastRow n f g x w₁
    → Scaled n x 49 w₁ u u' → Scaled n x 97 w₁ v v' → r ≡ (x * get_or w₁ 0 0) % n → ResultantCofactors n f g u' v' r
finished x u v w w₁ a k su sv hr = answered a.modulus k.shape k.band (omega (arith, a.first)) (omega (arith, a.second)) su sv hr

pub ruleset ends = (rules, step_asked, last_row, finished)
