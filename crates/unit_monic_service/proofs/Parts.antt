-- From the words of the working buffer to the results: f as it was loaded, and what the parts come to.
--
--   loaded_is                 the words loaded are f
--   spread                    a polynomial with zeros above it
--   given_of, factors_of      what `window_factor::unit_times_monic` asks, and what comes of it
use mathlib.Core.Path.{◌≡◌, sym, ap, ap₂, subst, ◌∙◌}
use mathlib.Core.List.{List}
use mathlib.Core.Logic.{⊎_elim}
use Prim.Native.Nat.{ℕ, suc, ◌+◌, ◌-◌, ◌*◌, ◌%◌, ◌≤◌, ◌<◌}
use native.Mathlib.Nat.{mod-eq_of_lt, mul_comm, zero-mod}
use native.Mathlib.Omega.{arith}
use lib.ListN.{length, get_or-eq_default}
use lib.Seq.{ext_get_or}
use Rattle.definitions.specs.Residues.{IsUnit, IsNilpotent}
use Rattle.definitions.specs.Polynomials.{coef, tabulate, Residues, UnitTimesMonic}
use Rattle.law_polynomials.specs.Words.{total_cong, coef_tabulate, length_tabulate}
use Rattle.windows.specs.Window.{piece, Below, Loaded}
use Rattle.windows.proofs.Leaf.{lt_or_le, piece_at, piece_over, piece_length}
use Rattle.window_factor.specs.Factors.{LeadingUnit, Given, Factored}

-- ---- f in the buffer

pub loaded_is : (n d : ℕ) (f w w' : List ℕ) → d + 1 ≡ length f → length f ≤ length w → Residues n f → Loaded n 0 f w w'
    → piece w' 0 (d + 1) ≡ f
loaded_is n d f w w' e fits rs ld =
    let l : length (piece w' 0 (d + 1)) ≡ d + 1 = piece_length w' 0 (d + 1) (omega (arith, ld.same)) in
    ext_get_or 0 (piece w' 0 (d + 1)) f (l ∙ e)
    (λ k b. piece_at w' 0 (d + 1) k (omega arith) ∙ ld.mid k (omega arith) ∙ mod-eq_of_lt (rs.at k (omega arith)))

pub loaded_below : (n d : ℕ) (f w w' : List ℕ) → d + 1 ≡ length f → Residues n f → Loaded n 0 f w w' → Below n 0 (d + 1) w'
loaded_below n d f w w' e rs ld = record {
  at = λ k l. subst (λ (x : ℕ). x < n) (sym (ld.mid k (omega arith) ∙ mod-eq_of_lt (rs.at k (omega arith)))) (rs.at k (omega arith));
}

-- ---- zeros above

pub spread : (l : ℕ) (P : List ℕ) → length P ≤ l → (k : ℕ) → coef (tabulate l (coef P)) k ≡ coef P k
spread l P h k =
    ⊎_elim (λ b. coef_tabulate l (coef P) k b)
    (λ b. get_or-eq_default (tabulate l (coef P)) 0 (omega (arith, length_tabulate l (coef P)))
    ∙ sym (get_or-eq_default P 0 (omega arith)))
    (lt_or_le k l)

-- ---- unit times monic

pub given_of : (n d t i : ℕ) (f w w' : List ℕ) → 2 ≤ n → d + 1 ≡ length f → length f ≤ length w → Residues n f → LeadingUnit n t i f
    → Loaded n 0 f w w' → Given n d t i w'
given_of n d t i f w w' two e fits rs lu ld =
    let q : piece w' 0 (d + 1) ≡ f = loaded_is n d f w w' e fits rs ld in
    record {
      small = lu.inverse.below;
      below = loaded_below n d f w w' e rs ld;
      unit = ap (λ (p : List ℕ). (i * coef p t) % n) q ∙ ap (λ (x : ℕ). x % n) (mul_comm i (coef f t)) ∙ lu.inverse.one;
      nilpotent = λ k l. subst (λ (p : List ℕ). IsNilpotent n (coef p k)) (sym q) (lu.nilpotent k l);
    }

module _ (n d t i : ℕ) (f w w1 w2 u h : List ℕ) (two : 2 ≤ n) (e : d + 1 ≡ length f) (fits : length f + (length f + length f) ≤ length w)
    (rs : Residues n f)
    (lu : LeadingUnit n t i f) (ld : Loaded n 0 f w w1) (fc : Factored n d t w1 w2)
    (k l : ℕ) (ek : k ≡ length f) (el : l ≡ length f)
    (made_u : u ≡ tabulate k (coef (piece w2 (d + 1 + (t + 1) + t) (d + 1 - t))))
    (made_h : h ≡ tabulate l (coef (piece w2 (d + 1) (t + 1)))) where
  U : List ℕ
  U = piece w2 (d + 1 + (t + 1) + t) (d + 1 - t)

  H : List ℕ
  H = piece w2 (d + 1) (t + 1)

  eu : u ≡ tabulate (length f) (coef U)
  unfolding U
  eu = made_u ∙ ap (λ (x : ℕ). tabulate x (coef (piece w2 (d + 1 + (t + 1) + t) (d + 1 - t)))) ek

  eh : h ≡ tabulate (length f) (coef H)
  unfolding H
  eh = made_h ∙ ap (λ (x : ℕ). tabulate x (coef (piece w2 (d + 1) (t + 1)))) el

  room : length w2 ≡ length w
  room = fc.around.same ∙ ld.same

  at_u : (k : ℕ) → coef u k ≡ coef U k
  unfolding U
  at_u k = ap (λ (p : List ℕ). coef p k) eu
      ∙ spread (length f) U (omega (arith, lu.place, piece_length w2 (d + 1 + (t + 1) + t) (d + 1 - t) (omega (arith, room, lu.place)))) k

  at_h : (k : ℕ) → coef h k ≡ coef H k
  unfolding H
  at_h k = ap (λ (p : List ℕ). coef p k) eh
      ∙ spread (length f) H (omega (arith, lu.place, piece_length w2 (d + 1) (t + 1) (omega (arith, room, lu.place)))) k

  -- words of a window are residues, and so are the zeros above
  small : (a l : ℕ) (p : List ℕ) → Below n a l w2 → ((k : ℕ) → coef p k ≡ coef (piece w2 a l) k) → (k : ℕ) → coef p k < n
  small a l p b q k =
      ⊎_elim (λ c. subst (λ (x : ℕ). x < n) (sym (q k ∙ piece_at w2 a l k c)) (b.at k c))
      (λ c. subst (λ (x : ℕ). x < n) (sym (q k ∙ piece_over w2 a l k c)) (omega arith))
      (lt_or_le k l)

  pub factors_of : UnitTimesMonic n f t u h
  unfolding U H
  factors_of = record {
    length_u = ap length eu ∙ length_tabulate (length f) (coef U);
    length_h = ap length eh ∙ length_tabulate (length f) (coef H);
    residues_u = record { at = λ k l. small (d + 1 + (t + 1) + t) (d + 1 - t) u fc.below_u at_u k };
    residues_h = record { at = λ k l. small (d + 1) (t + 1) h fc.below_h at_h k };
    unit = record {
      unit = subst (IsUnit n) (sym (at_u 0)) fc.unit.unit;
      nilpotent = λ k l. subst (IsNilpotent n) (sym (at_u k)) (fc.unit.nilpotent k l);
    };
    monic = record {
      lead = ap (λ (x : ℕ). x % n) (at_h t ∙ fc.monic);
      above = λ k l. ap (λ (x : ℕ). x % n) (at_h k ∙ piece_over w2 (d + 1) (t + 1) k (omega arith)) ∙ zero-mod n;
    };
    equation = record {
      at = λ k.
          ap (λ (p : List ℕ). coef p k % n) (sym (loaded_is n d f w w1 e (omega arith) rs ld)) ∙ fc.equation.at k
          ∙ ap (λ (x : ℕ). x % n) (sym (total_cong (suc k) _ _ (λ j l. ap₂ (λ (x y : ℕ). x * y) (at_u j) (at_h (k - j)))));
    };
  }
