-- G modulo H, and the window of the content stage made ready. The rules take what the calls promise, as the code hands it over, for
-- words of any width.
--
--   rest-…           the calls of `remainder`, and what it promises
--   prepared, prepared_length    what `prepare` promises
--   rests, prepares  the rules
use mathlib.Core.Path.{◌≡◌, sym, ap, ap₂, subst, ◌∙◌, fun_ext}
use mathlib.Core.List.{List, []}
use mathlib.Core.Logic.{⊎_elim}
use Prim.Native.Nat.{ℕ, zero, suc, ◌+◌, ◌*◌, ◌%◌, ◌≤◌, ◌<◌}
use native.Mathlib.Omega.{arith}
use native.Mathlib.Nat.{one-mul, add-zero, zero-add}
use lib.ListN.{length, get_or, set, length-set}
use lib.Seq.{get_or-set_same, get_or-set_other}
use Rattle.definitions.specs.Polynomials.{coef, convolve, constant, tabulate, Divided}
use Rattle.law_polynomials.specs.ReachedSteps.{coef_whole, coef_beyond}
use Rattle.windows.specs.Window.{piece, Moved, zeroed, second, Below, Around, Apart}
use Rattle.windows.proofs.Leaf.{lt_or_le, piece_at, piece_over}
use Rattle.windows.proofs.Lift.{moved_around, moved_copy, piece_equal}
use Rattle.window_division.specs.Remainders.{DivisionLengthsAsked, Pair, Remainder}
use Rattle.window_division.proofs.DivisionRounds.{convolve_none}
use Rattle.reduced_units.proofs.Regions.{apart_low, below_apart, piece_apart}
use Rattle.reduced_quotients.specs.Quotients.{PrepareAsked, RestAt, Prepared}

convolve_empty : (F : ℕ → ℕ) (k : ℕ) → convolve (coef []) F k ≡ 0
convolve_empty F k = ap (λ (a : ℕ → ℕ). convolve a F k) (fun_ext (λ i. coef_beyond [] i (omega arith))) ∙ convolve_none F k

-- ---- the remainder

module _ {n e q t : ℕ} {w w₁ w₂ : List ℕ} (asked : PrepareAsked n e q t w) (below_g : Below n 0 (e + 1) w)
    (below_h : Below n q (t + 1) w) (lead : get_or w (q + t) 0 ≡ 1)
    (cl : Moved zeroed (q + 8 * (t + 1)) (q + 8 * (t + 1)) (e + 1 + t) w w₁) (cp : Moved second 0 (q + 8 * (t + 1)) (e + 1) w₁ w₂) where
  start : Around (q + 8 * (t + 1)) (e + 1 + t) w w₂
  start = record {
    same = cp.same ∙ cl.same;
    low = λ k h. cp.low k h ∙ cl.low k h;
    high = λ k h. cp.high k (omega arith) ∙ cl.high k
        h;
  }

  -- G, and zeros
  word : (k : ℕ) → k < e + 1 → get_or w₂ (q + 8 * (t + 1) + k) 0 ≡ get_or w k 0
  word k h = cp.mid k h ∙ ap (λ (x : ℕ). get_or w₁ x 0) (zero-add k) ∙ cl.low k (omega arith)

  above : (k : ℕ) → e + 1 ≤ k → k < e + 1 + t → get_or w₂ (q + 8 * (t + 1) + k) 0 ≡ 0
  above k h b = cp.high (q + 8 * (t + 1) + k) (omega arith) ∙ cl.mid k b

  small : (k : ℕ) → k < e + 1 + t → get_or w₂ (q + 8 * (t + 1) + k) 0 < n
  small k b = ⊎_elim (λ h. subst (λ (x : ℕ). x < n) (sym (word k h ∙ ap (λ (x : ℕ). get_or w x 0) (sym (zero-add k)))) (below_g.at k h))
      (λ h. subst (λ (x : ℕ). x < n) (sym (above k h b)) (omega arith)) (lt_or_le k (e + 1))

  -- G is shorter than H
  pub rest_short : e + 1 < t → RestAt n e q t w w₂
  rest_short short = record {
    around = start;
    below = record { at = λ k h. small k (omega arith) };
    z = [];
    divided = record {
      at = λ k. ap (λ (x : ℕ). (x + coef (piece w₂ (q + 8 * (t + 1)) t) k) % n)
          (convolve_empty (coef (piece w q (t + 1))) k) ∙ ap (λ (x : ℕ). x % n) (zero-add _ ∙ same k);
    };
  }
    where
      same : (k : ℕ) → coef (piece w₂ (q + 8 * (t + 1)) t) k ≡ coef (piece w 0 (e + 1)) k
      same k = ⊎_elim
          (λ h. piece_at w₂ (q + 8 * (t + 1)) t k (omega arith) ∙ word k h ∙ sym (piece_at w 0 (e + 1) k h ∙ ap (λ (x : ℕ). get_or w x 0)
          (zero-add k)))
          (λ h. ⊎_elim (λ b. piece_at w₂ (q + 8 * (t + 1)) t k b ∙ above k h (omega arith)) (λ b. piece_over w₂ (q + 8 * (t + 1)) t k b)
          (lt_or_le k t) ∙ sym (piece_over w 0 (e + 1) k h))
          (lt_or_le k (e + 1))

  apart_h : Apart q (t + 1) (q + 8 * (t + 1)) (e + 1 + t)
  apart_h = apart_low q (t + 1) (q + 8 * (t + 1)) (e + 1 + t) (omega arith)

  pair : Pair n q t (q + 8 * (t + 1)) e w₂
  pair = record {
    first = below_apart apart_h start below_h;
    second = record { at = λ k h. small k (omega arith) };
    apart = record { ok = λ i j a b h. omega arith };
  }

  pub rest_unit : (n' q' t' : ℕ) (u : List ℕ) → n' ≡ n → q' ≡ q → t' ≡ t → u ≡ w₂ → (1 * get_or u (q' + t') 0) % n' ≡ 1 % n'
  rest_unit n' q' t' u en eq et eu = rw (en, eq, et, eu) (ap (λ (x : ℕ). x % n) (one-mul _ ∙ start.low (q + t) (omega arith) ∙ lead))

  sizes : t ≤ e + 1 → DivisionLengthsAsked n q t (q + 8 * (t + 1)) e w₂
  sizes near = let s = start.same in
      record { modulus = omega arith; degree = asked.degree; near = near; divisor = omega arith; dividend = omega arith }

  module _ {n' q' t' b e' : ℕ} {u : List ℕ} (en : n' ≡ n) (eq : q' ≡ q) (et : t' ≡ t) (eb : b ≡ q + 8 * (t + 1)) (ee : e' ≡ e)
      (eu : u ≡ w₂) where
    pub rest_sizes : t ≤ e + 1 → DivisionLengthsAsked n' q' t' b e' u
    rest_sizes near = rw (en, eq, et, eb, ee, eu) (sizes near)

    pub rest_pair : Pair n' q' t' b e' u
    rest_pair = rw (en, eq, et, eb, ee, eu) pair

  pub rest_long : {w₃ : List ℕ} → t ≤ e + 1 → Remainder n q t (q + 8 * (t + 1)) e w₂ w₃ → RestAt n e q t w w₃
  rest_long {w₃} long r = record {
    around = record {
      same = r.around.same ∙ start.same;
      low = λ k h. r.around.low k h ∙ start.low k h;
      high = λ k h. r.around.high k (omega arith) ∙ start.high k h;
    };
    below = record { at = λ k h. r.below.at k (omega arith) };
    z = tabulate (e + 1) r.q;
    divided = record {
      at = λ k.
          ap₂ (λ (F : ℕ → ℕ) (f : List ℕ). (convolve F (coef f) k + coef (piece w₃ (q + 8 * (t + 1)) t) k) % n)
          (fun_ext (coef_whole (e + 1) r.q (λ i h. r.top i (omega arith)))) (sym same_h)
          ∙ r.at k ∙ ap (λ (f : List ℕ). coef f k % n) same_g;
    };
  }
    where
      same_h : piece w₂ q (t + 1) ≡ piece w q (t + 1)
      same_h = piece_apart apart_h start (omega arith)

      same_g : piece w₂ (q + 8 * (t + 1)) (e + 1) ≡ piece w 0 (e + 1)
      same_g =
          moved_copy (omega (arith, cl.same)) (omega (arith, cl.same)) cp
          ∙ piece_apart (apart_low 0 (e + 1) (q + 8 * (t + 1)) (e + 1 + t) (omega arith)) (moved_around cl) (omega arith)

-- ---- the window

module _ {n e q t : ℕ} {w w₁ w₂ w₃ w₄ : List ℕ} (asked : PrepareAsked n e q t w) (rs : RestAt n e q t w w₁)
    (ca : Moved second q (q + 2 * (t + 1)) (t + 1) w₁ w₂) (cb : Moved second (q + 8 * (t + 1)) (q + 3 * (t + 1)) t w₂ w₃)
    (cl : Moved zeroed (q + 4 * (t + 1)) (q + 4 * (t + 1)) (4 * (t + 1)) w₃ w₄) where
  long : length w₄ ≡ length w
  long = cl.same ∙ cb.same ∙ ca.same ∙ rs.around.same

  prepared_room : q + 6 * (t + 1) < length w₄
  prepared_room = omega (arith, long)

  -- a word below the multipliers
  under : (k : ℕ) → k < q + 4 * (t + 1) → get_or (set w₄ (q + 6 * (t + 1)) 1) k 0 ≡ get_or w₃ k 0
  under k h = get_or-set_other w₄ (q + 6 * (t + 1)) k 1 0 (omega arith) ∙ cl.low k h

  low : (k : ℕ) → k < q + (t + 1) → get_or (set w₄ (q + 6 * (t + 1)) 1) k 0 ≡ get_or w k 0
  low k h = under k (omega arith) ∙ cb.low k (omega arith) ∙ ca.low k (omega arith) ∙ rs.around.low k (omega arith)

  first_word : (k : ℕ) → k < t + 1 → get_or (set w₄ (q + 6 * (t + 1)) 1) (q + 2 * (t + 1) + k) 0 ≡ get_or w (q + k) 0
  first_word k h = under (q + 2 * (t + 1) + k) (omega arith) ∙ cb.low (q + 2 * (t + 1) + k) (omega arith) ∙ ca.mid k h ∙ rs.around.low
      (q + k) (omega arith)

  second_word : (k : ℕ) → k < t → get_or (set w₄ (q + 6 * (t + 1)) 1) (q + 3 * (t + 1) + k) 0 ≡ get_or w₁ (q + 8 * (t + 1) + k) 0
  second_word k h = under (q + 3 * (t + 1) + k) (omega arith) ∙ cb.mid k h ∙ ca.high (q + 8 * (t + 1) + k) (omega arith)

  pub prepared_length : (i v : ℕ) → length (set w₄ i v) ≡ length w
  prepared_length i v = length-set w₄ i v ∙ long

  pub prepared : {v : List ℕ} → v ≡ set w₄ (q + 6 * (t + 1)) 1 → Prepared n e q t w v
  prepared ev = rw ev (record {
    same = length-set w₄ (q + 6 * (t + 1)) 1 ∙ long;
    low = low;
    first = piece_equal w (set w₄ (q + 6 * (t + 1)) 1) q (q + 2 * (t + 1)) (t + 1) (omega arith)
        (omega (arith, length-set w₄ (q + 6 * (t + 1)) 1, long)) first_word;
    second = record { at = λ k h. subst (λ (x : ℕ). x < n) (sym (second_word k h)) (rs.below.at k h) };
    z = rs.z;
    divided = subst (Divided n (piece w 0 (e + 1)) (piece w q (t + 1)) rs.z)
        (sym (piece_equal w₁ (set w₄ (q + 6 * (t + 1)) 1) (q + 8 * (t + 1)) (q + 3 * (t + 1)) t (omega (arith, rs.around.same))
        (omega (arith, length-set w₄ (q + 6 * (t + 1)) 1, long)) second_word)) rs.divided;
    none = λ k h. get_or-set_other w₄ (q + 6 * (t + 1)) (q + 4 * (t + 1) + k) 1 0 (omega arith) ∙ cl.mid k (omega arith);
    one = λ k h. unity k h;
  })
    where
      unity : (k : ℕ) → k < 2 * (t + 1) → get_or (set w₄ (q + 6 * (t + 1)) 1) (q + 6 * (t + 1) + k) 0 ≡ constant 1 k
      unity zero h = ap (λ (x : ℕ). get_or (set w₄ (q + 6 * (t + 1)) 1) x 0) (add-zero (q + 6 * (t + 1))) ∙ get_or-set_same w₄
          (q + 6 * (t + 1)) 1 0 prepared_room
      unity (suc k) h =
          get_or-set_other w₄ (q + 6 * (t + 1)) (q + 6 * (t + 1) + suc k) 1 0 (omega arith)
          ∙ ap (λ (x : ℕ). get_or w₄ x 0) (let z : q + 6 * (t + 1) + suc k ≡ q + 4 * (t + 1) + (2 * (t + 1) + suc k) = omega arith in z) ∙
          cl.mid (2 * (t + 1) + suc k) (omega arith)

pub ruleset rests = (rest_short, rest_pair, rest_unit, rest_sizes, rest_long)

pub ruleset prepares = (prepared, prepared_length)
